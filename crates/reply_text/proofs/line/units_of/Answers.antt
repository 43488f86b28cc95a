use Rattle.std.proofs.Common.{List, ℕ, subst}
use Rattle.turk_base.specs.Encodings.{HasTextCause}
use Rattle.reply_text.proofs.Texts.{too_many, refused}
use Rattle.reply_text.proofs.line.units_of.Goals as goal

pub returns-then-text-gt-MOST_BYTES : goal.returns-then-text-gt-MOST_BYTES
returns-then-text-gt-MOST_BYTES c = too_many c.args.text.now c.if-text-gt-MOST_BYTES.true

pub returns-in_default : goal.returns-in_default
returns-in_default c = refused c.in-Err.stop c.args.text.now (subst (λ (b : List ℕ). HasTextCause c.in-Err.stop b) c.as_bytes.ensures.value c.in-Err.ensures.cause) c.in_default.not-Memory
