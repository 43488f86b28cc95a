use Rattle.std.specs.Prelude.{if◌then◌else◌, Option, Some, None, ◌==◌, ℕ, Bool}
use Rattle.std.proofs.Common.{◌≡◌, ap, ◌∙◌, arith, nat_eq, false}
use Rattle.std.proofs.lemmas.Bool.Decides.{nat_tests}
use Rattle.turk_base.specs.BuiltIns.{cell_method, string_method}
use Rattle.turk_base.specs.Values.{BuiltIn}
use Rattle.value_cells.specs.Seen.{kind_in}
use Rattle.value_rows.proofs.methods.cell_method.Goals as goal

abbrev chosen : Bool → Option ℕ → Option ℕ
chosen b o = if b then o else None

pub returns-in-Array : goal.returns-in-Array
returns-in-Array c = λ nu. ap (λ k. cell_method (kind_in nu k) c.args.key.now) c.in-Array.is ∙ c.array_method.ensures

pub returns-then-which-eq12 : goal.returns-then-which-eq12
returns-then-which-eq12 c = λ nu. ap (λ k. cell_method (kind_in nu k) c.args.key.now) c.in-BuiltIn.is ∙ ap (λ w. chosen (w == 12) (string_method c.args.key.now)) c.if-which-eq12.true ∙ c.string_method.ensures

pub returns-else-which-eq12 : goal.returns-else-which-eq12
returns-else-which-eq12 c = let e : nat_eq c.in-BuiltIn.which 12 ≡ false = grind (arith, nat_tests) in λ nu. ap (λ k. cell_method (kind_in nu k) c.args.key.now) c.in-BuiltIn.is ∙ ap (λ b. chosen b (string_method c.args.key.now)) e

pub returns-in-Frame : goal.returns-in-Frame
returns-in-Frame c = λ nu. ap (λ k. cell_method (kind_in nu k) c.args.key.now) c.in-Frame.is

pub returns-in-Plain : goal.returns-in-Plain
returns-in-Plain c = λ nu. ap (λ k. cell_method (kind_in nu k) c.args.key.now) c.in-Plain.is

pub returns-in-Function : goal.returns-in-Function
returns-in-Function c = λ nu. ap (λ k. cell_method (kind_in nu k) c.args.key.now) c.in-Function.is
