use Rattle.reply_text.proofs.Grammar.{line_law}
use Rattle.reply_text.proofs.LeafCalls.{one_list}
use Rattle.reply_text.proofs.rows.law_of_lines.Goals as goal

pub returns : goal.returns
returns c = record { law = line_law; one = one_list }
