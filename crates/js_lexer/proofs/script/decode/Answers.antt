-- The characters of the bytes, or of the longest front that is UTF-8.
use Rattle.std.proofs.Common.{sym, subst}
use Rattle.std.specs.Str.{IsValidUpTo}
use Rattle.js_lexer.proofs.ScriptLemmas.{decodes_whole, decodes_front}
use Rattle.js_lexer.proofs.script.decode.Goals as goal

pub returns-in_ok-found-in-Ok : goal.returns-in_ok-found-in-Ok
returns-in_ok-found-in-Ok c =
    decodes_whole c.args.bytes.now c.in-Ok.text.now c.in_ok-found-in-Ok.found.items c.in-Ok.ensures.cases.0 c.in-Ok.ensures.cases.1 c.in_ok-found-in-Ok.ensures

pub returns-in_ok-found-in-Ok-from_utf8 : goal.returns-in_ok-found-in-Ok-from_utf8
returns-in_ok-found-in-Ok-from_utf8 c =
    decodes_front c.args.bytes.now c.in-Ok-from_utf8.text.now c.in_ok-found-in-Ok-from_utf8.found.items c.valid_up_to.result (subst (IsValidUpTo c.args.bytes.now) (sym c.valid_up_to.ensures) c.in-Err.ensures.cases.1) c.in-Ok-from_utf8.ensures.cases.0 c.in_ok-found-in-Ok-from_utf8.ensures
