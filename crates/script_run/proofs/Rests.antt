-- The posts of a run: the run makes each with the draws of a trace that a stop leaves, and it rests on that trace.
use Rattle.std.specs.Prelude.{ℕ, List, [], ◌∷◌, ◌++◌, map}
use Rattle.std.proofs.Common.{◌≡◌, refl, sym, ap, ◌∙◌, subst, inl, inr, append_assoc, append-nil}
use Rattle.turk_base.specs.Names.{Units, In, first, later, path_in}
use Rattle.turk_base.specs.Asks.{Rec, rec}
use Rattle.turk_base.specs.Told.{record_of, records_of}
use Rattle.turk_base.specs.declared.Entry.{Entry}
use Rattle.turk_base.specs.declared.Record.TheVariants.{Post}
use Rattle.js_tree.specs.declared.Script.{Script}
use Rattle.js_tree.specs.World.{fresh}
use Rattle.js_tree.specs.Eval.{eval, meaning, world}
use Rattle.run_laws.specs.Stops.{Front}
use Rattle.run_laws.proofs.Props.{in_left, in_right}
use Rattle.run_laws.proofs.Parting.{stops_next}
use Rattle.run_laws.proofs.Mirror.{post_rests}
use Rattle.run_laws.proofs.Cuts.{Follows}
use Rattle.run_host.specs.Moment.{draws_in}
use Rattle.run_host.specs.Told.{next_in}
use Rattle.ask_model.specs.Asker.{Seen as Asked, known_to, entry}
use Rattle.machine_host.specs.declared.AskedRun.{AskedRun}
use Rattle.machine_host.specs.declared.Unmade.{Unmade}
use Rattle.machine_host.specs.declared.Unmade.TheVariants.{Asking}
use Rattle.machine_host.specs.declared.Question.TheVariants as question
use Rattle.machine_host.specs.Moments.{unmade_in}
use Rattle.machine_host.specs.Chain.{LeftNow, IsRecordOf, IsUnrecorded}
use Rattle.script_run.specs.Since.{RestsOn}
use Rattle.script_run.proofs.Sources.{dealer}
use Rattle.script_run.proofs.Fronts.{Came, next_made}
use Rattle.script_run.proofs.Lefts.{Leaves, leaves_front, leaves_open}

pub in_map : {A B : Type 0} {x : A} (f : A → B) (l : List A) → In A x l → In B (f x) (map f l)
in_map f [] i = elim i [ ]
in_map f (y ∷ l) first = first
in_map f (y ∷ l) (later i) = later (in_map f l i)

in_front : {r : Rec} {m l : List Rec} → Front m l → In Rec r m → In Rec r l
in_front {r} {m} {l} f i = subst (λ z. In Rec r z) (sym f.is) (in_left m f.rest i)

-- a post in the trace that is left
pub rests_in : (S : Script) (session : Units) (fuel : ℕ) (old : Asked) (path text : List ℕ) (P t : List Entry) → Leaves S session fuel old P t → t ≡ old.trace ++ P → In Entry (entry path (Post text)) P → RestsOn S session fuel old path text t
rests_in S session fuel old path text P t l e i = record {
  made = in_front l.first (in_map record_of P i);
  rests = inl (subst (λ (z : List Entry). In Entry (entry path (Post text)) z) (sym e) (in_right old.trace P i));
}

module _ {A : Type 0} (seen : A → Asked) (S : Script) (session : Units) (fuel : ℕ) (old : Asked) (h : AskedRun A) (c : Came seen S session fuel old h) (added : List Entry) (made : (seen h.asker).made ≡ added) (trace : (seen h.asker).trace ≡ old.trace) where
  known_now : known_to (seen h.asker) ≡ old.trace ++ added
  known_now = ap (λ (l : List Entry). l ++ (seen h.asker).made) trace ∙ ap (λ (l : List Entry). old.trace ++ l) made

  known_more : (e : Entry) → known_to (seen h.asker) ++ e ∷ [] ≡ old.trace ++ (added ++ e ∷ [])
  known_more e = ap (λ (l : List Entry). l ++ e ∷ []) known_now ∙ append_assoc old.trace added (e ∷ [])

  -- a post whose record was made
  pub rests_made : (path text : List ℕ) → In Entry (entry path (Post text)) added → (t : List Entry) → LeftNow seen h t → RestsOn S session fuel old path text t
  rests_made path text i t (inl is) =
      let e = is ∙ known_now in
      rests_in S session fuel old path text added t (leaves_front seen S session fuel old h c added made added [] t (sym (append-nil added)) e) e i
  rests_made path text i t (inr (q, o, is)) =
      let e = is ∙ known_more q in
      rests_in S session fuel old path text (added ++ q ∷ []) t (leaves_open seen S session fuel old h c added made q t o e) e (in_left added (q ∷ []) i)

  -- it was the last call, and came next
  post_next : (old_run : AskedRun A) (path text : List ℕ) → IsUnrecorded seen old_run h path text → Front (records_of added ++ (rec (path_in path) (Post text) ∷ [])) (eval (meaning S) (dealer session old.replies c.word) (records_of old.trace) fuel).made
  unfolding fresh
  post_next old_run path text u =
      let f = next_made seen S session fuel old h c u.which c.word (record { session_is = refl; pairs_are = refl; dealt = c.asks.dealt }) u.stopped in
      subst (λ (l : List Entry). Follows (records_of l) (next_in (dealer session old.replies c.word) (draws_in (records_of l)) (unmade_in (Asking path (question.Post text)))) (eval (meaning S) (dealer session old.replies c.word) (records_of old.trace) fuel)) made
      (subst (λ (n : Unmade). Follows (records_of (seen h.asker).made) (next_in (dealer session old.replies c.word) (draws_in (records_of (seen h.asker).made)) (unmade_in n)) (eval (meaning S) (dealer session old.replies c.word) (records_of old.trace) fuel)) u.unmade f)

  -- a post whose record was not made
  pub rests_last : (old_run : AskedRun A) (path text : List ℕ) → IsUnrecorded seen old_run h path text → (t : List Entry) → LeftNow seen h t → RestsOn S session fuel old path text t
  rests_last old_run path text u t (inl is) =
      let e = is ∙ known_now in
      let l = leaves_front seen S session fuel old h c added made added [] t (sym (append-nil added)) e in
      let f = post_next old_run path text u in
      let E = dealer session old.replies c.word in
      record {
        made = subst (λ T. In Rec (rec (path_in path) (Post text)) (eval (meaning S) (world session old.replies T) (records_of old.trace) fuel).made) (sym l.is)
            (in_front (stops_next (meaning S) E (records_of old.trace) fuel (records_of added) (path_in path) (Post text) tt f) (in_right (records_of added) (rec (path_in path) (Post text) ∷ []) first));
        rests = inr (subst (λ T. In Rec (rec (path_in path) (Post text)) (eval (meaning S) (world session [] []) T fuel).made) (sym l.is)
            (in_front (post_rests (meaning S) E (records_of old.trace) fuel (records_of added) (path_in path) text f) first));
      }
  rests_last old_run path text u t (inr (q, o, is)) =
      let e = is ∙ known_more q in
      let same : q ≡ entry path (Post text) = subst (λ (n : Unmade). IsRecordOf (seen h.asker).replies n q) u.unmade o.is in
      rests_in S session fuel old path text (added ++ q ∷ []) t (leaves_open seen S session fuel old h c added made q t o e) e (in_right added (q ∷ []) (subst (λ x. In Entry x (q ∷ [])) same first))
