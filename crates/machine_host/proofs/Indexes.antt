-- Paths of calls, and what records answer posts.
use Rattle.std.specs.Prelude.{Result, Ok, Err, IfOk, IfErr}
use Rattle.std.proofs.Common.{◌≡◌, refl, sym, ap, subst, ◌∙◌, ℕ, List, [], ◌∷◌, ◌++◌, Some, None, inl}
use Rattle.turk_base.specs.Names.{Path, root, sub, path_on, path_in, Units, units_eq}
use Rattle.turk_base.specs.declared.Record.{Record}
use Rattle.turk_base.specs.declared.Record.TheVariants as kept
use Rattle.turk_base.specs.Asks.{posts}
use Rattle.turk_base.specs.Trace.{token_of}
use Rattle.run_laws.proofs.Props.{pick_yes}
use Rattle.meaning_laws.proofs.Tied.{token_tied}
use Rattle.ask_model.specs.Asker.{Seen as Asked}
use Rattle.ask_model.specs.declared.AskStop.TheVariants.{Memory}
use Rattle.eval_ops.specs.Run.{Run, seen_of}
use Rattle.eval_ops.specs.Calls.{Changes}
use Rattle.turk_base.specs.State.{next_call}
use Rattle.run_host.specs.declared.Exit.{Exit}
use Rattle.run_host.specs.declared.Exit.TheVariants.{Stopped}
use Rattle.machine_host.specs.declared.AskedRun.{AskedRun}
use Rattle.machine_host.specs.Runs.{moment_of}
use Rattle.machine_host.specs.Asking.{Indexed, KeptGives}
use Rattle.machine_host.proofs.Turns.{with_heap}

on_more : (p : Path) (l : List ℕ) (i : ℕ) → path_on p (l ++ i ∷ []) ≡ sub i (path_on p l)
on_more p [] i = refl
on_more p (j ∷ l) i = on_more (sub j p) l i

pub path_more : (l : List ℕ) (i : ℕ) → path_in (l ++ i ∷ []) ≡ sub i (path_in l)
path_more l i = on_more root l i

pub indexed : {X : Type 0} (seen : X → Asked) (words : X → ℕ → ℕ) (run : AskedRun X) (m : Run) (p : List ℕ) → p ≡ run.guarded.machine.heap.place.path ++ run.guarded.machine.heap.place.calls ∷ [] → Changes (λ nu σ. next_call σ) (seen_of run.guarded.machine) (seen_of m)
    → Indexed p (moment_of seen words run) (with_heap (moment_of seen words run) (seen_of m))
indexed seen words run m p e c = record {
  names = c.names;
  scope = c.scope;
  outer = c.outer;
  left = c.left;
  first = c.first;
  path = λ nu. ap path_in e ∙ path_more run.guarded.machine.heap.place.path run.guarded.machine.heap.place.calls;
  rest = refl;
}

pub post_gives : (text session p : List ℕ) (r : Record) (told : Units) (y : Result Units Exit) → r ≡ kept.Post told → told ≡ text → IfOk y (λ t. t ≡ token_of session p) → IfErr y (λ x. x ≡ Stopped Memory) → KeptGives (posts text) session (path_in p) r y
post_gives text session p r told y e same ok err = subst (λ r. KeptGives (posts text) session (path_in p) r y) (sym e) (by y ok err)
  where
    by : (y : Result Units Exit) → IfOk y (λ t. t ≡ token_of session p) → IfErr y (λ x. x ≡ Stopped Memory) → KeptGives (posts text) session (path_in p) (kept.Post told) y
    by (Ok t) ok err = pick_yes None (units_eq told text) same ∙ ap Some (token_tied session p ∙ sym ok)
    by (Err x) ok err = inl err
