-- Since bytes have one list of tokens or one first fault, the answer is that one.
use Rattle.js_lexer.specs.Tokens.{items_of}
use Rattle.js_lexer.proofs.Unique.{tokens_only, fault_only, answer_ends}
use Rattle.js_lexer.proofs.script.tokens.Goals as goal

pub returns-clause-tokens_only : goal.returns-clause-tokens_only
returns-clause-tokens_only c = tokens_only c.args.bytes.now (items_of c.read.result) c.read.ensures

pub returns-clause-fault_only : goal.returns-clause-fault_only
returns-clause-fault_only c = fault_only c.args.bytes.now (items_of c.read.result) c.read.ensures

pub returns-clause-end : goal.returns-clause-end
returns-clause-end c = answer_ends c.args.bytes.now c.read.result c.read.ensures
