use Rattle.std.proofs.Common.{◌≡◌, ◌+◌, [], ◌∷◌, ◌++◌, length, refl, sym, ap, ◌∙◌, subst, arith, length-append}
use Rattle.std.specs.Prelude.{MatchOption, ◌<◌}
use Rattle.reply_text.specs.Lines.{lines_of, Reads, no_lines}
use Rattle.reply_text.proofs.Files.{reads_more, grown}
use Rattle.reply_text.proofs.file.replies.Goals as goal

pub lines-init : goal.lines-init
lines-init c = ([], refl, refl, subst (λ xs. Reads [] xs) (sym c.new-found.ensures) no_lines, omega arith)

pub lines-preserved : goal.lines-preserved
lines-preserved c =
    let i = c.lines.invariant in
    let line = c.first_line.result.0.now in
    let f = subst (λ o. MatchOption o (lines_of c.lines.rest.now ≡ line ∷ []) (λ next. (lines_of c.lines.rest.now ≡ line ∷ lines_of next.now) × (length next.now < length c.lines.rest.now))) c.in-Some.is c.first_line.ensures in
    let long : length (i.0 ++ line ∷ []) ≡ length i.0 + 1 = length-append i.0 (line ∷ []) in (
      i.0 ++ line ∷ [],
      grown (lines_of c.args.bytes.now) i.0 (lines_of c.lines.rest.now) (lines_of c.in-Some.more.now) line i.1 f.0,
      omega (arith, long, i.2),
      reads_more i.0 line c.lines.found c.take_line.new.found i.3 c.in_ok-take_line.ensures.took,
      omega (arith, long, f.1, i.4),
    )

pub returns-in-None-clause-ok : goal.returns-in-None-clause-ok
returns-in-None-clause-ok c =
    let i = c.lines.invariant in
    let line = c.first_line.result.0.now in
    let f = subst (λ o. MatchOption o (lines_of c.lines.rest.now ≡ line ∷ []) (λ next. (lines_of c.lines.rest.now ≡ line ∷ lines_of next.now) × (length next.now < length c.lines.rest.now))) c.in-None.is c.first_line.ensures in
    subst (λ ls. Reads ls c.take_line.new.found) (sym (i.1 ∙ ap (λ l. i.0 ++ l) f))
    (reads_more i.0 line c.lines.found c.take_line.new.found i.3 c.in_ok-take_line.ensures.took)
