use Rattle.command_words.proofs.WordLemmas.{files_some, files_none}
use Rattle.command_words.proofs.words.after_files.Goals as goal

pub returns-then-are_files : goal.returns-then-are_files
returns-then-are_files c = files_some c.args.count c.args.words.now c.split_at.result.0.now c.split_at.result.1.now c.are_files.result c.if-words-count.false c.split_at.ensures.front c.split_at.ensures.back c.are_files.ensures c.if-are_files.true

pub returns-else-are_files : goal.returns-else-are_files
returns-else-are_files c = files_none c.args.count c.args.words.now c.split_at.result.0.now c.are_files.result c.if-words-count.false c.split_at.ensures.front c.are_files.ensures c.if-are_files.false
