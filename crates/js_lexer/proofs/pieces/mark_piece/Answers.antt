-- A punctuator, or none.
use Rattle.std.proofs.Common.{◌≡◌, ◌+◌, ◌&&◌, ◌==◌, ℕ, Bool, List, ◌∙◌, ap, sym, get_or}
use Rattle.js_lexer.specs.Chars.{is_digit}
use Rattle.js_lexer.proofs.PieceLemmas.{mark_found, mark_none, point_refused}
use Rattle.js_lexer.proofs.pieces.mark_piece.Goals as goal

point : (b : Bool) (text : List ℕ) (i x y : ℕ) → x ≡ get_or text i 0 → y ≡ get_or text (i + 1) 0 → b ≡ (x == 46 && is_digit 10 y) → (get_or text i 0 == 46 && is_digit 10 (get_or text (i + 1) 0)) ≡ b
point b text i x y e f g = ap (λ v. v == 46 && is_digit 10 (get_or text (i + 1) 0)) (sym e) ∙ ap (λ v. x == 46 && is_digit 10 v) (sym f) ∙ sym g

pub returns-then-is_point : goal.returns-then-is_point
returns-then-is_point c = point_refused c.args.text.now c.args.broken c.args.place c.requires.first (point c.is_point.result c.args.text.now c.args.place c.at-first.result c.at-second.result c.at-first.ensures c.at-second.ensures c.is_point.ensures ∙ c.if-is_point.true)

pub returns-in-Some : goal.returns-in-Some
returns-in-Some c = mark_found c.args.text.now c.args.broken c.args.place c.in-Some.after c.in-Some.mark c.requires.first (point c.is_point.result c.args.text.now c.args.place c.at-first.result c.at-second.result c.at-first.ensures c.at-second.ensures c.is_point.ensures ∙ c.if-is_point.false) c.in-Some.ensures.found c.in-Some.ensures.longest c.in-Some.ensures.within

pub returns-in-None : goal.returns-in-None
returns-in-None c = mark_none c.args.text.now c.args.broken c.args.place c.requires.first (point c.is_point.result c.args.text.now c.args.place c.at-first.result c.at-second.result c.at-first.ensures c.at-second.ensures c.is_point.ensures ∙ c.if-is_point.false) c.in-None.ensures.none
