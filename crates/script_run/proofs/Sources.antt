-- Sources of draws that give what was made, and worlds in which the record that was not made comes next.
use Rattle.std.specs.Prelude.{ℕ, ℤ, pos, negsuc, int_rem, List, [], ◌∷◌, Some}
use Rattle.std.proofs.Common.{◌≡◌, ◌<◌, ◌+◌, zero, suc, refl, sym, ap, ◌∙◌, arith}
use Rattle.std.proofs.Math.Nat.{mod-eq_of_lt}
use Rattle.turk_base.specs.Names.{Units, path_in}
use Rattle.turk_base.specs.Asks.{Rec, rec}
use Rattle.turk_base.specs.Told.{record_of}
use Rattle.turk_base.specs.declared.Entry.{Entry}
use Rattle.turk_base.specs.declared.Record.TheVariants as kept
use Rattle.js_tree.specs.World.{World, words, fresh, fresh_reply, fresh_draw}
use Rattle.meaning_laws.proofs.Tied.{answer_tied}
use Rattle.run_laws.proofs.Cuts.{makes}
use Rattle.record_bytes.specs.Limits.{IsDraw}
use Rattle.ask_model.specs.Asker.{Pairs}
use Rattle.run_host.specs.Moment.{draws_in, AllDealt}
use Rattle.run_host.specs.Told.{next_in, next_fresh}
use Rattle.machine_host.specs.declared.Unmade.{Unmade}
use Rattle.machine_host.specs.declared.Unmade.TheVariants.{Asking, Keeping, Nothing}
use Rattle.machine_host.specs.declared.Question.TheVariants.{Post, Reply, Draw}
use Rattle.machine_host.specs.Moments.{unmade_in}
use Rattle.machine_host.specs.Chain.{IsRecordOf}

-- a world with the words of this source
abbrev pub dealer : Units → Pairs → (ℕ → ℕ) → World
dealer session replies w = record { session = session; pairs = replies; dice = words w }

-- What a source dealt, another does that has the same words until then.
dealt_by : (v w : ℕ → ℕ) (k : ℕ) (l : List Rec) → ((j : ℕ) → j < k + draws_in l → v j ≡ w j) → AllDealt (words w) k l → AllDealt (words v) k l
dealt_by v w k [] same d = tt
dealt_by v w k (rec p (kept.Post t) ∷ l) same d = (tt, dealt_by v w k l same d.1)
dealt_by v w k (rec p (kept.Reply t x) ∷ l) same d = (tt, dealt_by v w k l same d.1)
dealt_by v w k (rec p (kept.Draw b y) ∷ l) same d = (ap (λ i. Some (int_rem (pos i) b)) (same k (omega arith)) ∙ d.0, dealt_by v w (suc k) l (λ j h. same j (omega arith)) d.1)
dealt_by v w k (rec p (kept.Once x) ∷ l) same d = (tt, dealt_by v w k l same d.1)

-- the words with this one at this place
with_word : (ℕ → ℕ) → ℕ → ℕ → ℕ → ℕ
with_word w zero x zero = x
with_word w zero x (suc j) = w (suc j)
with_word w (suc d) x zero = w zero
with_word w (suc d) x (suc j) = with_word (λ i. w (suc i)) d x j

word_there : (w : ℕ → ℕ) (d x : ℕ) → with_word w d x d ≡ x
unfolding with_word
word_there w zero x = refl
word_there w (suc d) x = word_there (λ i. w (suc i)) d x

word_before : (w : ℕ → ℕ) (d x j : ℕ) → j < d → with_word w d x j ≡ w j
unfolding with_word
word_before w zero x j h = absurd (omega arith)
word_before w (suc d) x zero h = refl
word_before w (suc d) x (suc j) h = word_before (λ i. w (suc i)) d x j (omega arith)

-- A source of what was made, with which this record is the one that was not made.
pub record Nexts (session : Units) (replies : Pairs) (made : List Rec) (u : Unmade) (e : Entry) : Type 0 where
  pub source : ℕ → ℕ
  pub dealt : AllDealt (words source) 0 made
  pub next : next_in (dealer session replies source) (draws_in made) (unmade_in u) ≡ makes (record_of e)

drawn_next : (session : Units) (replies : Pairs) (w : ℕ → ℕ) (made : List Rec) (path : List ℕ) (bound value : ℤ) (e : Entry) → AllDealt (words w) 0 made → IsDraw bound value → e ≡ record { path = path; what = kept.Draw bound value } →
    Nexts session replies made (Asking path (Draw bound)) e
unfolding fresh
drawn_next session replies w made path (pos b) (pos v) e dealt small is =
    let source = with_word w (draws_in made) v in
    let below : v < b = small.0 in
    let word : int_rem (pos (source (draws_in made))) (pos b) ≡ pos v = ap (λ i. int_rem (pos i) (pos b)) (word_there w (draws_in made) v) ∙ ap pos (mod-eq_of_lt below) in
    record {
      source = source;
      dealt = dealt_by source w 0 made (λ j h. word_before w (draws_in made) v j (omega arith)) dealt;
      next = ap (λ z. next_fresh (path_in path) (fresh_draw (pos b) (Some z))) word ∙ ap (λ e. makes (record_of e)) (sym is);
    }
drawn_next session replies w made path (pos b) (negsuc v) e dealt small is = absurd small
drawn_next session replies w made path (negsuc b) value e dealt small is = absurd small

-- There is one for each record at which the disk may have failed.
pub open_next : (session : Units) (replies : Pairs) (w : ℕ → ℕ) (made : List Rec) (u : Unmade) (e : Entry) → AllDealt (words w) 0 made → IsRecordOf replies u e → Nexts session replies made u e
unfolding fresh
open_next session replies w made (Asking path (Post text)) e dealt is = record { source = w; dealt = dealt; next = ap (λ e. makes (record_of e)) (sym is) }
open_next session replies w made (Asking path (Reply token)) e dealt is = record {
  source = w;
  dealt = dealt;
  next = ap (λ o. next_fresh (path_in path) (fresh_reply token o)) (answer_tied replies token ∙ is.1) ∙ ap (λ e. makes (record_of e)) (sym is.2);
}
open_next session replies w made (Asking path (Draw bound)) e dealt is = drawn_next session replies w made path bound is.0 e dealt is.1 is.2
open_next session replies w made (Keeping path value) e dealt is = record { source = w; dealt = dealt; next = ap (λ e. makes (record_of e)) (sym is) }
open_next session replies w made Nothing e dealt is = absurd is
