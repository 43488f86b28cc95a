-- Entries at the paths 0, 1, 2 and so on.
use Rattle.std.proofs.Common.{◌≡◌, ℕ, ◌+◌, ◌<◌, ◌≤◌, List, [], ◌∷◌, ◌++◌, length, None, arith, length-append}
use Rattle.turk_base.specs.declared.Entry.{Entry}
use Rattle.turk_base.specs.Trace.{at}
use Rattle.record_bytes.specs.Limits.{IsWithin}
use Rattle.ask_model.specs.Asker.{IsTrace}
use Rattle.ask_model.proofs.Tables.{at_push, trace_push}

pub record Numbered (n : ℕ) (es : List Entry) : Type 0 where
  pub count : length es ≡ n
  pub valid : IsTrace es
  pub fresh : (k : ℕ) → n ≤ k → at es (k ∷ []) ≡ None

pub numbered_push : (n : ℕ) (es : List Entry) (e : Entry) → Numbered n es → n < 65536 → e.path ≡ n ∷ [] → IsWithin e → Numbered (n + 1) (es ++ e ∷ [])
numbered_push n es e so_far few is one = record {
  count = omega (arith, length-append es (e ∷ []), so_far.count);
  valid = trace_push es e so_far.valid (at_path es e so_far (so_far.fresh n (omega arith)) is) (omega (arith, so_far.count)) one;
  fresh = λ k le. at_push es e (k ∷ []) (so_far.fresh k (omega arith)) (λ same. apart k le (head_is is same));
}
  where
    at_path : (es : List Entry) (e : Entry) → Numbered n es → at es (n ∷ []) ≡ None → e.path ≡ n ∷ [] → at es e.path ≡ None
    at_path es e so_far none is = rw is none

    head_is : e.path ≡ n ∷ [] → {k : ℕ} → e.path ≡ k ∷ [] → n ≡ k
    head_is is same = cc

    apart : (k : ℕ) → n + 1 ≤ k → n ≡ k → ⊥
    apart k le is = absurd (omega arith)
