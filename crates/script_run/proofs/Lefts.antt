-- The traces that a stop of a run may leave.
use Rattle.std.specs.Prelude.{ℕ, List, [], ◌∷◌, ◌++◌}
use Rattle.std.proofs.Common.{◌≡◌, refl, sym, ap, ◌∙◌, subst, inl, inr, append-nil}
use Rattle.std.proofs.lemmas.List.{map-append}
use Rattle.turk_base.specs.Names.{Units}
use Rattle.turk_base.specs.Told.{record_of, records_of}
use Rattle.turk_base.specs.declared.Entry.{Entry}
use Rattle.js_tree.specs.declared.Script.{Script}
use Rattle.js_tree.specs.World.{words}
use Rattle.js_tree.specs.Eval.{eval, meaning, world, Left}
use Rattle.run_laws.specs.Stops.{Front}
use Rattle.run_laws.proofs.Fronts.{front, front_trans}
use Rattle.ask_model.specs.Asker.{Seen as Asked, known_to}
use Rattle.machine_host.specs.declared.AskedRun.{AskedRun}
use Rattle.machine_host.specs.Chain.{IsOpen, LeftBetween}
use Rattle.script_run.proofs.Fronts.{Came, first_made, open_made, begins_left}

-- what an asker knows that has made nothing
pub known_first : (s : Asked) → s.made ≡ [] → known_to s ≡ s.trace
known_first s none = ap (λ (l : List Entry). s.trace ++ l) none ∙ append-nil s.trace

-- the trace t is that of the entry and these records, which the run makes first with its draws
pub record Leaves (S : Script) (session : Units) (fuel : ℕ) (old : Asked) (added t : List Entry) : Type 0 where
  pub is : records_of t ≡ records_of old.trace ++ records_of added
  pub first : Front (records_of added) (eval (meaning S) (world session old.replies (records_of t)) (records_of old.trace) fuel).made

pub leaves_left : (S : Script) (session : Units) (fuel : ℕ) (old : Asked) (added t : List Entry) → Leaves S session fuel old added t → Left session (meaning S) fuel (records_of old.trace) old.replies (records_of t)
leaves_left S session fuel old added t l = (records_of added, l.first.rest, l.is, l.first.is)

with_added : (s : Asked) (added t : List Entry) → t ≡ s.trace ++ added → records_of t ≡ records_of s.trace ++ records_of added
with_added s added t e = ap records_of e ∙ map-append record_of s.trace added

-- nothing was added
pub leaves_none : (S : Script) (session : Units) (fuel : ℕ) (old : Asked) (t : List Entry) → old.made ≡ [] → t ≡ known_to old → Leaves S session fuel old [] t
leaves_none S session fuel old t none e = record {
  is = with_added old [] t (e ∙ ap (λ (l : List Entry). old.trace ++ l) none);
  first = front _ refl;
}

module _ {A : Type 0} (seen : A → Asked) (S : Script) (session : Units) (fuel : ℕ) (old : Asked) (h : AskedRun A) (c : Came seen S session fuel old h) (added : List Entry) (made : (seen h.asker).made ≡ added) where
  -- a front of what some source makes
  left_by : (w : ℕ → ℕ) (P t : List Entry) → t ≡ old.trace ++ P → Front (records_of P) (eval (meaning S) (record { session = session; pairs = old.replies; dice = words w }) (records_of old.trace) fuel).made → Leaves S session fuel old P t
  left_by w P t e f =
      let is = with_added old P t e in
      record {
        is = is;
        first = subst (λ T. Front (records_of P) (eval (meaning S) (world session old.replies T) (records_of old.trace) fuel).made) (sym is) (begins_left seen S session fuel old h c w (records_of P) f);
      }

  -- the first of the records that were made
  pub leaves_front : (P rest t : List Entry) → added ≡ P ++ rest → t ≡ old.trace ++ P → Leaves S session fuel old P t
  leaves_front P rest t e is = left_by c.word P t is
      (front_trans (front (records_of rest) (ap records_of (made ∙ e) ∙ map-append record_of P rest)) (first_made seen S session fuel old h c))

  -- all of them, and the one at which the disk failed
  pub leaves_open : (e : Entry) (t : List Entry) → IsOpen seen h e → t ≡ old.trace ++ (added ++ e ∷ []) → Leaves S session fuel old (added ++ e ∷ []) t
  leaves_open e t o is =
      let f = open_made seen S session fuel old h c e o in
      left_by f.0 (added ++ e ∷ []) t is (subst (λ l. Front l (eval (meaning S) (record { session = session; pairs = old.replies; dice = words f.0 }) (records_of old.trace) fuel).made) (ap (λ (l : List Entry). records_of l ++ (record_of e ∷ [])) made ∙ sym (map-append record_of added (e ∷ []))) f.1)

  pub between : (t : List Entry) → LeftBetween seen old added h t → Left session (meaning S) fuel (records_of old.trace) old.replies (records_of t)
  between t (inl (P, rest, e, is)) = leaves_left S session fuel old P t (leaves_front P rest t e (is ∙ ap (λ (l : List Entry). l ++ P) (known_first old c.none)))
  between t (inr (e, o, is)) = leaves_left S session fuel old (added ++ e ∷ []) t (leaves_open e t o (is ∙ ap (λ (l : List Entry). l ++ (added ++ e ∷ [])) (known_first old c.none)))
