use Rattle.std.proofs.Common.{◌≡◌, ◌+◌, ◌<◌, ◌∷◌, length, take, sym, subst}
use Rattle.std.specs.Prelude.{◌==◌}
use Rattle.reply_text.specs.Lines.{lines_of}
use Rattle.reply_text.proofs.Files.{first_line_is, one_line, rest_is}
use Rattle.reply_text.proofs.file.first_line.Goals as goal

pub returns-in-Some : goal.returns-in-Some
returns-in-Some c =
    let xs = c.args.bytes.now in
    let i = c.in-Some.end in
    subst (λ r. (lines_of xs ≡ take i xs ∷ lines_of r) × (length r < length xs)) (sym (rest_is (i + 1) xs)) (first_line_is (λ b. b == 10) xs i (sym c.in-Some.ensures))

pub returns-in-None : goal.returns-in-None
returns-in-None c = one_line (λ b. b == 10) c.args.bytes.now (sym c.in-None.ensures)
