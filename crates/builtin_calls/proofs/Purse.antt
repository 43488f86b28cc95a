-- What the calls of a purse come to.
use Rattle.std.proofs.Common.{◌≡◌, ◌∙◌, refl, ap, ℕ, zero, suc, ◌-◌, ◌<◌, ◌≤◌, true, false, nat_lt, Some, None, slice_get, arith}
use Rattle.std.proofs.lemmas.Bool.Decides.{nat_tests}
use Rattle.turk_base.specs.Names.{root, cell}
use Rattle.turk_base.specs.Values.{Plain}
use Rattle.turk_base.specs.State.{act}
use Rattle.turk_base.specs.Steps.{steps_of}
use Rattle.turk_base.specs.Prog.{Prim, Pay, KindOf}
use Rattle.value_cells.specs.Comes.{goes, charged, comes}
use Rattle.value_cells.specs.Does.{Does, Says, Spends}
use Rattle.value_cells.proofs.Turns.{stays_same}
use Rattle.builtin_calls.specs.Called.{HasBuiltIns}
use Rattle.builtin_calls.specs.Purse.{purse}

pub built_ins : (left : ℕ) → HasBuiltIns (purse left)
built_ins left = record { named = by }
  where
    by : (i : ℕ) → i < 7 → slice_get (purse left).names i ≡ Some (cell root i)
    by zero h = refl
    by (suc zero) h = refl
    by (suc (suc zero)) h = refl
    by (suc (suc (suc zero))) h = refl
    by (suc (suc (suc (suc zero)))) h = refl
    by (suc (suc (suc (suc (suc zero))))) h = refl
    by (suc (suc (suc (suc (suc (suc zero)))))) h = refl
    by (suc (suc (suc (suc (suc (suc (suc i))))))) h = absurd (omega arith)

pub pays : (left units : ℕ) → units ≤ left → Does (λ nu. Pay units) (λ nu. Says tt) (purse left) (purse (left - units))
unfolding comes steps_of act
pays left units h = record {
  stays = record { scope = refl; outer = refl; grows = λ i n e. e; below = (stays_same (purse left)).below };
  did = λ nu fits. let no : nat_lt left units ≡ false = grind (arith, nat_tests) in
      ap (λ b. charged b units ((purse left).first nu) left (goes tt ((purse left).first nu) (left - units))) no;
}

pub spent : (left units : ℕ) → left < units → Does (λ nu. Pay units) (λ nu. Spends) (purse left) (purse left)
unfolding comes steps_of act
spent left units h = record {
  stays = stays_same (purse left);
  did = λ nu fits. let yes : nat_lt left units ≡ true = grind (arith, nat_tests) in (
    (purse left).first nu,
    left,
    ap (λ b. charged b units ((purse left).first nu) left (goes tt ((purse left).first nu) (left - units))) yes,
    record { text = refl; opened = refl; verdict = refl },
  );
}

pub kind_told : (left c : ℕ) → Does (λ nu. KindOf (nu c)) (λ nu. Says (Plain None)) (purse left) (purse left)
unfolding comes steps_of act
kind_told left c = record {
  stays = stays_same (purse left);
  did = λ nu fits. let no : nat_lt left 0 ≡ false = grind (arith, nat_tests) in let e : left - 0 ≡ left = omega arith in
      ap (λ b. charged b 0 ((purse left).first nu) left (goes (Plain None) ((purse left).first nu) (left - 0))) no ∙ ap (λ n. goes (Plain None) ((purse left).first nu) n) e;
}
