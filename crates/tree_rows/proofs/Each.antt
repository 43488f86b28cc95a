-- Expressions that are evaluated in order.
use Rattle.std.specs.Prelude.{Ok, map}
use Rattle.std.proofs.Common.{◌≡◌, ◌≤◌, ◌<◌, ◌+◌, ◌∙◌, ℕ, List, [], ◌∷◌, ◌++◌, append_assoc, append-nil, length, get_or, drop, refl, sym, ap, arith, add-one, drop-cons}
use Rattle.std.proofs.lemmas.List.{map-append}
use Rattle.std.proofs.Math.ListN.{drop_of_length-le}
use Rattle.js_tree.specs.declared.Expr.{Expr}
use Rattle.js_tree.specs.Expressions.{each}
use Rattle.js_tree.specs.Pieces.{Here}
use Rattle.turk_base.specs.Prog.{Prog, Then}
use Rattle.turk_base.specs.Values.{Val}
use Rattle.value_cells.specs.declared.Value.{Value}
use Rattle.value_cells.specs.Needs.{needs, all_needs}
use Rattle.value_cells.specs.Seen.{Naming, val_in}
use Rattle.run_host.specs.declared.Exit.{Exit}
use Rattle.run_host.specs.Moment.{Chain, Moment}
use Rattle.run_host.specs.Told.{told_exit, told_value}
use Rattle.run_host.specs.Did.{Runs}
use Rattle.run_host.specs.Steps.{Step, Leads, Leaves, Gives}
use Rattle.run_host.proofs.Sequence.{leads_then, leads_out, then_on}
use Rattle.run_host.proofs.Exits.{first_out}
use Rattle.run_host.proofs.Fits.{leads_eq}

pub needs_more : (vs : List Value) (v : Value) (n : ℕ) → all_needs vs ≤ n → needs v ≤ n → all_needs (vs ++ v ∷ []) ≤ n
needs_more [] v n h k = omega (arith, k)
needs_more (w ∷ vs) v n h k = let r = needs_more vs v n (omega (arith, h)) k in omega (arith, h, r)

-- none is evaluated yet
pub each_begin : {κ : Chain} → (expr : Here → Expr → Prog) (here : Naming → Here) (all : List Expr) (vs : List Value) {m : Moment κ} → vs ≡ [] →
    Leads (λ nu. each expr (here nu) all) (λ nu go. each expr (here nu) all (λ ws. go (map (val_in nu) vs ++ ws))) m m
each_begin expr here all vs e = leads_eq (λ nu go. ap (λ vs. each expr (here nu) all (λ ws. go (map (val_in nu) vs ++ ws))) (sym e))

module _ (expr : Here → Expr → Prog) (here : Naming → Here) (all : List Expr) (i : ℕ) (vs : List Value) where
  -- what is left, after these values
  abbrev pub each_from : Naming → Step (List Val)
  each_from nu go = each expr (here nu) (drop i all) (λ ws. go (map (val_in nu) vs ++ ws))

  abbrev pub each_after : Value → Naming → Step (List Val)
  each_after v nu go = each expr (here nu) (drop (i + 1) all) (λ ws. go (map (val_in nu) (vs ++ v ∷ []) ++ ws))

  each_next : (e : Expr) → Naming → (List Val → Prog) → Val → Prog
  each_next e nu go v = each expr (here nu) (drop (i + 1) all) (λ ws. go (map (val_in nu) vs ++ v ∷ ws))

  each_at : (e : Expr) → i < length all → e ≡ get_or all i e → (nu : Naming) (go : List Val → Prog) → each_from nu go ≡ Then (expr (here nu) e) (each_next e nu go)
  unfolding each_next
  each_at e h q nu go = ap (λ es. each expr (here nu) es (λ ws. go (map (val_in nu) vs ++ ws))) (drop-cons all i e h)
      ∙ (λ j. Then (expr (here nu) (sym q j)) (λ v. each expr (here nu) (drop (sym (add-one i) j) all) (λ ws. go (map (val_in nu) vs ++ v ∷ ws))))

  moved : (v : Value) (nu : Naming) (ws : List Val) → map (val_in nu) vs ++ val_in nu v ∷ ws ≡ map (val_in nu) (vs ++ v ∷ []) ++ ws
  moved v nu ws = sym (ap (λ xs. xs ++ ws) (map-append (val_in nu) vs (v ∷ [])) ∙ append_assoc (map (val_in nu) vs) (val_in nu v ∷ []) ws)

  pub each_goes : {κ : Chain} → (e : Expr) (v : Value) {a b c : Moment κ} {whole : Naming → Step (List Val)} → i < length all → e ≡ get_or all i e → Leads whole each_from a b →
      Runs (λ nu. expr (here nu) e) (λ nu. told_value nu (Ok v)) b c → Leads whole (each_after v) a c
  unfolding each_next
  each_goes e v h q rest ran = leads_then rest (leads_then (leads_eq (each_at e h q))
      (leads_then (record { goes = λ go. record { goes = λ t last r. then_on (λ nu w. each_next e nu (go nu) w) ran r } })
      (leads_eq (λ nu go j. each expr (here nu) (drop (i + 1) all) (λ ws. go (moved v nu ws j))))))

  pub each_out : {κ : Chain} → (e : Expr) (x : Exit) {a b c : Moment κ} {whole : Naming → Step (List Val)} → i < length all → e ≡ get_or all i e → Leads whole each_from a b →
      Runs (λ nu. expr (here nu) e) (λ nu. told_exit nu x) b c → Leaves whole x a c
  each_out e x h q rest ran = leads_out rest (leads_out (leads_eq (each_at e h q)) (record { ends = λ go. first_out (λ nu w. each_next e nu (go nu) w) x ran }))

  pub each_over : {κ : Chain} {a b : Moment κ} {whole : Naming → Step (List Val)} → length all ≤ i → Leads whole each_from a b → Gives whole (λ nu. map (val_in nu) vs) a b
  each_over h rest = leads_then rest (leads_eq (λ nu go. ap (λ es. each expr (here nu) es (λ ws. go (map (val_in nu) vs ++ ws))) (drop_of_length-le all h) ∙ ap go (append-nil (map (val_in nu) vs))))
