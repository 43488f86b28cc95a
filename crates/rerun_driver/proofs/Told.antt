-- What a run over an empty trace comes to, by what was told of it.
use Rattle.std.specs.Prelude.{Bool, Result, Ok, Err, IfOk, IfErr}
use Rattle.std.proofs.Common.{◌≡◌, ◌≤◌, ◌<◌, suc, inl, inr, ℕ, List, [], ◌∷◌, ◌++◌, Option, Some, None, length, refl, sym, ◌∙◌, ap, subst, arith, length-append}
use Rattle.turk_base.specs.Names.{Units}
use Rattle.turk_base.specs.Encodings.{bytes_of}
use Rattle.turk_base.specs.Asks.{Rec}
use Rattle.turk_base.specs.Told.{records_of}
use Rattle.turk_base.specs.declared.Entry.{Entry}
use Rattle.js_tree.specs.declared.Script.{Script}
use Rattle.js_tree.specs.World.{World, words, Fresh, fresh}
use Rattle.js_tree.specs.Eval.{Eval, eval, meaning, PlainRun}
use Rattle.run_laws.specs.Stops.{Front}
use Rattle.run_laws.proofs.Cuts.{Follows}
use Rattle.ask_model.specs.Asker.{Seen as Asked, known_to, KnowsWithin}
use Rattle.ask_model.specs.Table.{IsFullOrLost}
use Rattle.ask_model.specs.declared.AskStop.{AskStop}
use Rattle.ask_model.specs.declared.AskStop.TheVariants as asked
use Rattle.run_host.specs.Moment.{Unmade, asking, keeping, nothing_known, draws_in}
use Rattle.run_host.specs.Told.{next_in, next_fresh}
use Rattle.machine_host.specs.declared.Unmade.{Unmade as CodeUnmade}
use Rattle.machine_host.specs.Moments.{unmade_in}
use Rattle.machine_host.specs.Sound.{IsNamed}
use Rattle.script_run.specs.Tells.{Asks, HasCause, IsRan, IsStopped, Knows, Tells, StopIs, by_record, by_asker}
use Rattle.script_run.specs.declared.Ran.{Ran}
use Rattle.rerun_driver.specs.declared.Report.{Report}
use Rattle.rerun_driver.specs.declared.Stop.{Stop}
use Rattle.rerun_driver.specs.Plain.{plain_world, IsRunOf}
use Rattle.rerun_driver.specs.Told.{report_of, told_as, IsTold}
use Rattle.rerun_driver.proofs.Halts.{never_diverges, never_undrawn}

count_same : (l : List Entry) → length (records_of l) ≡ length l
count_same [] = refl
count_same (e ∷ l) = ap (λ n. suc n) (count_same l)

-- one more than so many records make more than the limit
past : (m : List Rec) (r : Rec) (e : List Rec) → 65536 ≤ length m → Front (m ++ (r ∷ [])) e → 65536 < length e
past m r e many f = omega (arith, ap length f.is, length-append (m ++ (r ∷ [])) f.rest, length-append m (r ∷ []), many)

-- At the refused call a run that never lacks a draw makes one record more.
full : (word : ℕ → ℕ) (S : Script) (E : World) (fuel : ℕ) (u : Unmade) (m : List Rec) → E.dice ≡ words word → IsNamed u → 65536 ≤ length m →
    Follows m (next_in E (draws_in m) u) (eval (meaning S) E [] fuel) → 65536 < length (eval (meaning S) E [] fuel).made
full word S E fuel (asking p q) m is named many f = inner (fresh q E (draws_in m) p) f
  where
    inner : (o : Option (Fresh q)) → Follows m (next_fresh p o) (eval (meaning S) E [] fuel) → 65536 < length (eval (meaning S) E [] fuel).made
    inner (Some x) f = past m _ _ many f
    inner None f = absurd (never_undrawn (meaning S) E [] fuel word is f.0)
full word S E fuel (keeping p d) m is named many f = past m _ _ many f
full word S E fuel nothing_known m is named many f = absurd named

module _ (S : Script) (session : Units) (word : ℕ → ℕ) (fuel : ℕ) (old new : Asked) (fits : Entry → Bool) (none : old.trace ≡ []) (asks : Asks word old new) (within : KnowsWithin new) where
  abbrev E : World
  E = plain_world session old.replies word

  knows : Knows E session old.replies (records_of new.made)
  knows = record { session_is = refl; pairs_are = refl; dealt = asks.dealt }

  -- what is known are the records made
  alone : length (known_to new) ≡ length (records_of new.made)
  alone =
      let none_left : length new.trace ≡ 0 = sym (count_same new.trace) ∙ ap length asks.trace ∙ ap (λ l. length (records_of l)) none in
      omega (arith, none_left, length-append new.trace new.made, count_same new.made)

  reported : (ran : Ran) → Tells ran (records_of new.made) (PlainRun S E fuel) → IsRunOf S E fuel (Ok (report_of ran (length new.made)))
  reported ran t = (
    record {
      ended = t.ended;
      output = ap bytes_of t.output;
      verdict = t.verdict;
      forks = t.forks;
      made = sym (count_same new.made) ∙ ap length t.made_are;
      few = subst (λ l. length l ≤ 65536) t.made_are (subst (λ n. n ≤ 65536) alone within.trace.few);
    },
    refl,
  )

  stopped : (u : CodeUnmade) (why : AskStop) → StopIs (HasCause IsFullOrLost fits new u) E (unmade_in u) (records_of new.made) (eval (meaning S) E [] fuel) why → IsRunOf S E fuel (told_as (Err why) (length new.made))
  stopped u (asked.Fault which) (by_asker (inl e) f) = absurd (cc)
  stopped u (asked.Fault which) (by_asker (inr r) f) = absurd r.refused.may
  stopped u (asked.Diverged d) (by_record t out made) = absurd (never_diverges (meaning S) E fuel _ out)
  stopped u (asked.Diverged d) (by_asker (inl e) f) = absurd (cc)
  stopped u (asked.Diverged d) (by_asker (inr r) f) = absurd r.refused.may
  stopped u asked.TraceFull (by_asker (inl e) f) = absurd (cc)
  stopped u asked.TraceFull (by_asker (inr r) f) = full word S E fuel (unmade_in u) _ refl r.refused.named (subst (λ n. 65536 ≤ n) alone (r.refused.full refl)) f
  stopped u asked.LogFull (by_asker (inl e) f) = absurd (cc)
  stopped u asked.LogFull (by_asker (inr r) f) = absurd r.refused.may
  stopped u asked.Memory s = tt

  -- The run that was answered so comes to what is told of it.
  pub comes_to : (answer : Result Ran AskStop) → IfOk answer (λ ran. IsRan S session old new fuel ran) → IfErr answer (λ why. (u : CodeUnmade) × IsStopped (HasCause IsFullOrLost fits new u) (unmade_in u) S session old new fuel why) →
      (result : Result Report Stop) → IsTold answer (length new.made) result → IsRunOf S E fuel result
  comes_to answer ran why result (inr e) = subst (IsRunOf S E fuel) (sym e) tt
  comes_to (Ok x) ran why result (inl e) = subst (IsRunOf S E fuel) (sym e) (reported x (subst (λ l. Tells x (records_of new.made) (Eval S E (records_of l) fuel)) none (ran E knows)))
  comes_to (Err x) ran why result (inl e) =
      subst (IsRunOf S E fuel) (sym e) (stopped why.0 x (subst (λ l. StopIs (HasCause IsFullOrLost fits new why.0) E (unmade_in why.0) (records_of new.made) (eval (meaning S) E (records_of l) fuel) x) none (why.1 E knows)))
