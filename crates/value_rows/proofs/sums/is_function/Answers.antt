use Rattle.std.proofs.Common.{ap}
use Rattle.js_tree.specs.Pieces.{if_function}
use Rattle.value_cells.specs.Seen.{kind_in}
use Rattle.value_rows.proofs.sums.is_function.Goals as goal

pub returns-in-Function : goal.returns-in-Function
returns-in-Function c = λ nu a b. ap (λ k. if_function (kind_in nu k) a b) c.in-Function.is

pub returns-in-BuiltIn : goal.returns-in-BuiltIn
returns-in-BuiltIn c = λ nu a b. ap (λ k. if_function (kind_in nu k) a b) c.in-BuiltIn.is

pub returns-in-Frame : goal.returns-in-Frame
returns-in-Frame c = λ nu a b. ap (λ k. if_function (kind_in nu k) a b) c.in-Frame.is

pub returns-in-Plain : goal.returns-in-Plain
returns-in-Plain c = λ nu a b. ap (λ k. if_function (kind_in nu k) a b) c.in-Plain.is

pub returns-in-Array : goal.returns-in-Array
returns-in-Array c = λ nu a b. ap (λ k. if_function (kind_in nu k) a b) c.in-Array.is
