-- The texts of values, joined.
use Rattle.std.proofs.Common.{◌≡◌, ◌≤◌, ◌<◌, ◌+◌, ◌∙◌, ℕ, List, [], ◌∷◌, ◌++◌, append_assoc, length, get_or, drop, refl, sym, ap, arith, add-one, drop-cons}
use Rattle.std.specs.Prelude.{map}
use Rattle.std.proofs.Math.ListN.{drop_of_length-le}
use Rattle.turk_base.specs.Names.{Units}
use Rattle.turk_base.specs.Values.{Val}
use Rattle.turk_base.specs.Prog.{Prog}
use Rattle.turk_base.specs.Errors.{text_from}
use Rattle.js_tree.specs.ScriptCalls.{line_of}
use Rattle.value_cells.specs.declared.Value.{Value}
use Rattle.value_cells.specs.Seen.{Naming, val_in}
use Rattle.run_host.specs.declared.Exit.{Exit}
use Rattle.run_host.specs.Moment.{Chain, Moment}
use Rattle.run_host.specs.Steps.{Step, Leads, Leaves, Gives}
use Rattle.run_host.proofs.Sequence.{leads_then, leads_out, gives_on, leaves_on}
use Rattle.run_host.proofs.Fits.{leads_eq}
use Rattle.call_steps.specs.Lines.{line_from}

-- what stands before a line may be put before it at its end
line_before : (p a : Units) (vs : List Val) (go : Units → Prog) → line_from a vs (λ t. go (p ++ t)) ≡ line_from (p ++ a) vs go
line_before p a [] go = refl
line_before p a (v ∷ vs) go = λ i. text_from v (λ s. (line_before p (a ++ 32 ∷ s) vs go ∙ ap (λ l. line_from l vs go) (sym (append_assoc p a (32 ∷ s)))) i)

-- the first text, and the others after it
pub line_begins : (v : Val) (vs : List Val) (go : Units → Prog) → line_of (v ∷ vs) go ≡ text_from v (λ s. line_from s vs go)
line_begins v [] go = refl
line_begins v (w ∷ vs) go = λ i. text_from v (λ s. (line_begins w vs (λ t. go (s ++ 32 ∷ t)) ∙ (λ j. text_from w (λ u. after s u j))) i)
  where
    after : (s u : Units) → line_from u vs (λ t. go (s ++ 32 ∷ t)) ≡ line_from (s ++ 32 ∷ u) vs go
    after s u = (λ j. line_from u vs (λ t. go (sym (append_assoc s (32 ∷ []) t) j))) ∙ line_before (s ++ 32 ∷ []) u vs go ∙ ap (λ l. line_from l vs go) (append_assoc s (32 ∷ []) u)

pub line_starts : (vs : List Value) (v : Value) → 0 < length vs → v ≡ get_or vs 0 v → (nu : Naming) (go : Units → Prog) → line_of (map (val_in nu) vs) go ≡ text_from (val_in nu v) (λ s. line_from s (map (val_in nu) (drop 1 vs)) go)
line_starts [] v h e nu go = absurd (omega (arith, h))
line_starts (w ∷ vs) v h e nu go = line_begins (val_in nu w) (map (val_in nu) vs) go ∙ (λ i. text_from (val_in nu (sym e i)) (λ s. line_from s (map (val_in nu) vs) go))

pub line_empty : (vs : List Value) → length vs ≡ 0 → (nu : Naming) (t : Units) → t ≡ [] → (go : Units → Prog) → line_of (map (val_in nu) vs) go ≡ go t
line_empty [] h nu t e go = ap go (sym e)
line_empty (v ∷ vs) h nu t e go = absurd (omega (arith, h))

-- values from the place i on, in a loop of the code
module _ (all : List Value) (i : ℕ) (line : Units) where
  abbrev pub line_at : Naming → Step Units
  line_at nu go = line_from line (map (val_in nu) (drop i all)) go

  abbrev pub line_next : Units → Naming → Step Units
  line_next t nu go = line_from (line ++ 32 ∷ t) (map (val_in nu) (drop (i + 1) all)) go

  line_step : (v : Value) → i < length all → v ≡ get_or all i v → (nu : Naming) (go : Units → Prog) → line_at nu go ≡ text_from (val_in nu v) (λ t. line_next t nu go)
  line_step v h q nu go = ap (λ vs. line_from line (map (val_in nu) vs) go) (drop-cons all i v h)
      ∙ (λ j. text_from (val_in nu (sym q j)) (λ t. line_from (line ++ 32 ∷ t) (map (val_in nu) (drop (sym (add-one i) j) all)) go))

  pub line_goes : {κ : Chain} → (v : Value) (t : Units) {a b c : Moment κ} {whole : Naming → Step Units} → i < length all → v ≡ get_or all i v → Leads whole line_at a b →
      Gives (λ nu. text_from (val_in nu v)) (λ nu. t) b c → Leads whole (line_next t) a c
  line_goes v t h q rest ran = leads_then rest (leads_then (leads_eq (line_step v h q)) (gives_on ran (λ nu t go. line_next t nu go)))

  pub line_out : {κ : Chain} → (v : Value) (x : Exit) {a b c : Moment κ} {whole : Naming → Step Units} → i < length all → v ≡ get_or all i v → Leads whole line_at a b →
      Leaves (λ nu. text_from (val_in nu v)) x b c → Leaves whole x a c
  line_out v x h q rest ran = leads_out rest (leads_out (leads_eq (line_step v h q)) (leaves_on ran (λ nu t go. line_next t nu go)))

  pub line_over : {κ : Chain} {a b : Moment κ} {whole : Naming → Step Units} → length all ≤ i → Leads whole line_at a b → Gives whole (λ nu. line) a b
  line_over h rest = leads_then rest (leads_eq (λ nu go. ap (λ vs. line_from line (map (val_in nu) vs) go) (drop_of_length-le all h)))
