-- An ask as a whole: its index, what is known at its path, and what came of it.
use Rattle.std.specs.Prelude.{ℤ, List, Some, Result}
use Rattle.std.proofs.Common.{◌≡◌, ℕ, refl, sym, ap, subst, ◌∙◌, ◌⊎◌}
use Rattle.turk_base.specs.Names.{Units, path_in}
use Rattle.turk_base.specs.declared.Record.{Record}
use Rattle.turk_base.specs.Asks.{Question, posts, replies, draws, AnsOf}
use Rattle.turk_base.specs.Prog.{Post, Reply, Draw, ask}
use Rattle.turk_base.specs.Steps.{give, steps_of}
use Rattle.turk_base.specs.Steps as steps
use Rattle.turk_base.specs.Told.{records_of}
use Rattle.js_tree.specs.Run.{run}
use Rattle.js_tree.specs.World.{diverges, found_below, called_by}
use Rattle.ask_model.specs.declared.AskStop.TheVariants.{Memory}
use Rattle.ask_model.specs.declared.Known.TheVariants.{Nothing, Below}
use Rattle.ask_model.specs.Asker.{Seen as Asked_of, known_to, known_at, asked_at, record_in}
use Rattle.ask_model.proofs.Finds.{below_is, nothing_is}
use Rattle.value_cells.specs.Seen.{Naming}
use Rattle.run_host.specs.declared.Exit.{Exit}
use Rattle.run_host.specs.declared.Exit.TheVariants.{Stopped}
use Rattle.run_host.specs.Moment.{alone, Moment}
use Rattle.run_host.specs.Steps.{Step, Leaves, Takes}
use Rattle.machine_host.specs.declared.AskedRun.{AskedRun}
use Rattle.machine_host.specs.Moments.{moment_at}
use Rattle.machine_host.specs.Runs.{heap_of, notes_of, moment_of}
use Rattle.machine_host.specs.Asking as spec
use Rattle.machine_host.specs.Asking.{Indexed, Loses, Tells, KeptGives}
use Rattle.machine_host.proofs.Turns.{Asks}
use Rattle.machine_host.proofs.Halting.{lost_leaves}
use Rattle.machine_host.proofs.Calls.{kept_takes, below_takes, ask_takes}

pub asks_post : (text : Units) → Asks (ask (Post text)) (steps.ask (posts text) give)
unfolding run steps_of
asks_post text = record { runs = λ c go k σ w. refl }

pub asks_reply : (key : Units) → Asks (ask (Reply key)) (steps.ask (replies key) give)
unfolding run steps_of
asks_reply key = record { runs = λ c go k σ w. refl }

pub asks_draw : (bound : ℤ) → Asks (ask (Draw bound)) (steps.ask (draws bound) give)
unfolding run steps_of
asks_draw bound = record { runs = λ c go k σ w. refl }

pub loses_leaves : {A : Type 0} {f : Naming → Step A} {m n : Moment alone} (e : Exit) → Loses e m n → Leaves f e m n
loses_leaves {A} {f} {m} {n} e l = subst (λ e. Leaves f e m n) (sym l.is) (lost_leaves m n l.same l.made l.stopped)

module _ {X : Type 0} (seen : X → Asked_of) (words : X → ℕ → ℕ) (old mid : AskedRun X) (known : X) (q : Question) (f : Step (AnsOf q)) (is : Asks f (steps.ask q give)) (p : List ℕ) (x : Indexed p (moment_of seen words old) (moment_of seen words mid))
    (asker : mid.asker ≡ old.asker) (notes : mid.notes ≡ old.notes) (asked : seen known ≡ asked_at (seen mid.asker) p) (drawn : (k : ℕ) → words known k ≡ words mid.asker k) where
  abbrev now : Moment alone
  now = moment_at (heap_of mid) (seen known) (words known) (notes_of mid.notes)

  now_is : now ≡ record (moment_of seen words old) { heap = heap_of mid }
  now_is = (λ i. moment_at (heap_of mid) (asked i) (λ k. drawn k i) (notes_of mid.notes)) ∙ x.rest

  pub from_kept : (r : Record) → Some r ≡ record_in (known_to (seen known)) (seen known).asked → (y : Result (AnsOf q) Exit) → KeptGives q mid.notes.session (path_in p) r y → Takes (λ nu. f) (λ nu a. a) y (moment_of seen words old) now
  from_kept r here y h = kept_takes q f is (seen mid.asker) (moment_of seen words old) (moment_of seen words mid) (λ i. records_of (seen (sym asker i)).trace) (λ i. records_of (seen (sym asker i)).made) p x now now_is r
      (sym (here ∙ ap (λ s. record_in (known_to s) s.asked) asked)) y (subst (λ n. KeptGives q n.session (path_in p) r y) notes h)

  pub from_below : Below ≡ known_at (known_to (seen mid.asker)) p → (y : Exit) → (y ≡ Stopped Memory) ⊎ Tells y (diverges (path_in p) found_below (called_by q)) → Leaves (λ nu. f) y (moment_of seen words old) now
  from_below e y t =
      let b = below_is (known_to (seen mid.asker)) p e in
      below_takes q f is (seen mid.asker) (moment_of seen words old) (moment_of seen words mid) (λ i. records_of (seen (sym asker i)).trace) (λ i. records_of (seen (sym asker i)).made) p x (λ nu (a : AnsOf q). a) now now_is b.0 b.1 y t

  pub from_nothing : Nothing ≡ known_at (known_to (seen mid.asker)) p → (l : Moment alone) (y : Result (AnsOf q) Exit) → spec.Asks q (path_in p) now l y → Takes (λ nu. f) (λ nu a. a) y (moment_of seen words old) l
  from_nothing e l y a =
      let b = nothing_is (known_to (seen mid.asker)) p e in
      ask_takes q f is (seen mid.asker) (moment_of seen words old) (moment_of seen words mid) (λ i. records_of (seen (sym asker i)).trace) (λ i. records_of (seen (sym asker i)).made) p x l b.0 b.1 y (subst (λ m. spec.Asks q (path_in p) m l y) now_is a)
