use Rattle.part_rows.proofs.Joints.{begun_start}
use Rattle.script_grammar.specs.Grammar.{grammar, statement_as}
use Rattle.script_grammar.specs.Rules.Symbol.{Statement}
use Rattle.script_grammar.specs.declared.classes.Start.TheVariants as start
use Rattle.script_grammar.proofs.Along.{row, whole, gives, refuses, peeks, peeks_end, eats, rises, sinks, passes, fails, passes_level, fails_level, yes, no, by, as_high, at, expects, misses, unpeeks, handed, handed_by, handed_on}
use Rattle.script_grammar.proofs.Along as along
use Rattle.script_rows.proofs.Members.{as_block, opened}
use Rattle.script_rows.proofs.any.statement.Goals as goal

pub returns-in_err-token-clause-meets : goal.returns-in_err-token-clause-meets
returns-in_err-token-clause-meets g c = handed (Statement c.args.around) c.args.base (grammar (Statement c.args.around)) c.args.tokens.now c.from_residual.result c.from_residual.ensures.1
    (λ not. peeks_end c.in_err-token.ensures.0 c.in_err-token.ensures.1)

pub returns-in-Block-clause-meets : goal.returns-in-Block-clause-meets
returns-in-Block-clause-meets g c = along.onward {n = (Statement c.args.around)} {b = c.args.base} {r = statement_as c.args.around start.Block} {s = grammar (Statement c.args.around)} c.block.result (λ o x. peeks c.in_ok-token.ensures (by (statement_as c.args.around) c.in-Block.ensures x)) (as_block c.args.around c.args.base c.args.tokens.now c.block.result c.block.ensures.meets)

pub returns-in-Var-clause-meets : goal.returns-in-Var-clause-meets
returns-in-Var-clause-meets g c = along.onward {n = (Statement c.args.around)} {b = c.args.base} {r = statement_as c.args.around start.Var} {s = grammar (Statement c.args.around)} c.var_statement.result (λ o x. peeks c.in_ok-token.ensures (by (statement_as c.args.around) c.in-Var.ensures x)) c.var_statement.ensures.meets

pub var_statement-requires-clause-begun : goal.var_statement-requires-clause-begun
var_statement-requires-clause-begun g c = begun_start start.Var c.in_ok-token.ensures c.in-Var.ensures (λ i. cc)

pub returns-in-Empty-clause-meets : goal.returns-in-Empty-clause-meets
returns-in-Empty-clause-meets g c = along.onward {n = (Statement c.args.around)} {b = c.args.base} {r = statement_as c.args.around start.Empty} {s = grammar (Statement c.args.around)} c.empty_statement.result (λ o x. peeks c.in_ok-token.ensures (by (statement_as c.args.around) c.in-Empty.ensures x)) (c.empty_statement.ensures.meets c.args.around)

pub empty_statement-requires-clause-begun : goal.empty_statement-requires-clause-begun
empty_statement-requires-clause-begun g c = begun_start start.Empty c.in_ok-token.ensures c.in-Empty.ensures (λ i. cc)

pub returns-in-If-clause-meets : goal.returns-in-If-clause-meets
returns-in-If-clause-meets g c = along.onward {n = (Statement c.args.around)} {b = c.args.base} {r = statement_as c.args.around start.If} {s = grammar (Statement c.args.around)} c.if_statement.result (λ o x. peeks c.in_ok-token.ensures (by (statement_as c.args.around) c.in-If.ensures x)) c.if_statement.ensures.meets

pub if_statement-requires-clause-begun : goal.if_statement-requires-clause-begun
if_statement-requires-clause-begun g c = begun_start start.If c.in_ok-token.ensures c.in-If.ensures (λ i. cc)

pub returns-in-Do-clause-meets : goal.returns-in-Do-clause-meets
returns-in-Do-clause-meets g c = along.onward {n = (Statement c.args.around)} {b = c.args.base} {r = statement_as c.args.around start.Do} {s = grammar (Statement c.args.around)} c.do_statement.result (λ o x. peeks c.in_ok-token.ensures (by (statement_as c.args.around) c.in-Do.ensures x)) c.do_statement.ensures.meets

pub do_statement-requires-clause-begun : goal.do_statement-requires-clause-begun
do_statement-requires-clause-begun g c = begun_start start.Do c.in_ok-token.ensures c.in-Do.ensures (λ i. cc)

pub returns-in-While-clause-meets : goal.returns-in-While-clause-meets
returns-in-While-clause-meets g c = along.onward {n = (Statement c.args.around)} {b = c.args.base} {r = statement_as c.args.around start.While} {s = grammar (Statement c.args.around)} c.while_statement.result (λ o x. peeks c.in_ok-token.ensures (by (statement_as c.args.around) c.in-While.ensures x)) c.while_statement.ensures.meets

pub while_statement-requires-clause-begun : goal.while_statement-requires-clause-begun
while_statement-requires-clause-begun g c = begun_start start.While c.in_ok-token.ensures c.in-While.ensures (λ i. cc)

pub returns-in-For-clause-meets : goal.returns-in-For-clause-meets
returns-in-For-clause-meets g c = along.onward {n = (Statement c.args.around)} {b = c.args.base} {r = statement_as c.args.around start.For} {s = grammar (Statement c.args.around)} c.for_statement.result (λ o x. peeks c.in_ok-token.ensures (by (statement_as c.args.around) c.in-For.ensures x)) c.for_statement.ensures.meets

pub for_statement-requires-clause-begun : goal.for_statement-requires-clause-begun
for_statement-requires-clause-begun g c = begun_start start.For c.in_ok-token.ensures c.in-For.ensures (λ i. cc)

pub returns-in-Continue-clause-meets : goal.returns-in-Continue-clause-meets
returns-in-Continue-clause-meets g c = along.onward {n = (Statement c.args.around)} {b = c.args.base} {r = statement_as c.args.around start.Continue} {s = grammar (Statement c.args.around)} c.continue_statement.result (λ o x. peeks c.in_ok-token.ensures (by (statement_as c.args.around) c.in-Continue.ensures x)) c.continue_statement.ensures.meets

pub continue_statement-requires-clause-begun : goal.continue_statement-requires-clause-begun
continue_statement-requires-clause-begun g c = begun_start start.Continue c.in_ok-token.ensures c.in-Continue.ensures (λ i. cc)

pub returns-in-Break-clause-meets : goal.returns-in-Break-clause-meets
returns-in-Break-clause-meets g c = along.onward {n = (Statement c.args.around)} {b = c.args.base} {r = statement_as c.args.around start.Break} {s = grammar (Statement c.args.around)} c.break_statement.result (λ o x. peeks c.in_ok-token.ensures (by (statement_as c.args.around) c.in-Break.ensures x)) c.break_statement.ensures.meets

pub break_statement-requires-clause-begun : goal.break_statement-requires-clause-begun
break_statement-requires-clause-begun g c = begun_start start.Break c.in_ok-token.ensures c.in-Break.ensures (λ i. cc)

pub returns-in-Return-clause-meets : goal.returns-in-Return-clause-meets
returns-in-Return-clause-meets g c = along.onward {n = (Statement c.args.around)} {b = c.args.base} {r = statement_as c.args.around start.Return} {s = grammar (Statement c.args.around)} c.return_statement.result (λ o x. peeks c.in_ok-token.ensures (by (statement_as c.args.around) c.in-Return.ensures x)) c.return_statement.ensures.meets

pub return_statement-requires-clause-begun : goal.return_statement-requires-clause-begun
return_statement-requires-clause-begun g c = begun_start start.Return c.in_ok-token.ensures c.in-Return.ensures (λ i. cc)

pub returns-in-Throw-clause-meets : goal.returns-in-Throw-clause-meets
returns-in-Throw-clause-meets g c = along.onward {n = (Statement c.args.around)} {b = c.args.base} {r = statement_as c.args.around start.Throw} {s = grammar (Statement c.args.around)} c.throw_statement.result (λ o x. peeks c.in_ok-token.ensures (by (statement_as c.args.around) c.in-Throw.ensures x)) c.throw_statement.ensures.meets

pub throw_statement-requires-clause-begun : goal.throw_statement-requires-clause-begun
throw_statement-requires-clause-begun g c = begun_start start.Throw c.in_ok-token.ensures c.in-Throw.ensures (λ i. cc)

pub returns-in-Switch-clause-meets : goal.returns-in-Switch-clause-meets
returns-in-Switch-clause-meets g c = along.onward {n = (Statement c.args.around)} {b = c.args.base} {r = statement_as c.args.around start.Switch} {s = grammar (Statement c.args.around)} c.switch_statement.result (λ o x. peeks c.in_ok-token.ensures (by (statement_as c.args.around) c.in-Switch.ensures x)) c.switch_statement.ensures.meets

pub switch_statement-requires-clause-begun : goal.switch_statement-requires-clause-begun
switch_statement-requires-clause-begun g c = begun_start start.Switch c.in_ok-token.ensures c.in-Switch.ensures (λ i. cc)

pub returns-in-Try-clause-meets : goal.returns-in-Try-clause-meets
returns-in-Try-clause-meets g c = along.onward {n = (Statement c.args.around)} {b = c.args.base} {r = statement_as c.args.around start.Try} {s = grammar (Statement c.args.around)} c.try_statement.result (λ o x. peeks c.in_ok-token.ensures (by (statement_as c.args.around) c.in-Try.ensures x)) c.try_statement.ensures.meets

pub try_statement-requires-clause-begun : goal.try_statement-requires-clause-begun
try_statement-requires-clause-begun g c = begun_start start.Try c.in_ok-token.ensures c.in-Try.ensures (λ i. cc)

pub returns-in-Identifier-clause-meets : goal.returns-in-Identifier-clause-meets
returns-in-Identifier-clause-meets g c = along.onward {n = (Statement c.args.around)} {b = c.args.base} {r = statement_as c.args.around start.Identifier} {s = grammar (Statement c.args.around)} c.identifier_statement.result (λ o x. peeks c.in_ok-token.ensures (by (statement_as c.args.around) c.in-Identifier.ensures x)) c.identifier_statement.ensures.meets

pub returns-in-Parenthesis-clause-meets : goal.returns-in-Parenthesis-clause-meets
returns-in-Parenthesis-clause-meets g c = along.onward {n = (Statement c.args.around)} {b = c.args.base} {r = statement_as c.args.around start.Parenthesis} {s = grammar (Statement c.args.around)} c.parenthesis_statement.result (λ o x. peeks c.in_ok-token.ensures (by (statement_as c.args.around) c.in-Parenthesis.ensures x)) c.parenthesis_statement.ensures.meets

pub parenthesis_statement-requires-clause-open : goal.parenthesis_statement-requires-clause-open
parenthesis_statement-requires-clause-open g c = opened c.in_ok-token.ensures c.in-Parenthesis.ensures

pub returns-in-Expression-clause-meets : goal.returns-in-Expression-clause-meets
returns-in-Expression-clause-meets g c = along.onward {n = (Statement c.args.around)} {b = c.args.base} {r = statement_as c.args.around start.Expression} {s = grammar (Statement c.args.around)} c.expression_statement.result (λ o x. peeks c.in_ok-token.ensures (by (statement_as c.args.around) c.in-Expression.ensures x)) c.expression_statement.ensures.meets

pub returns-in-Neither-clause-meets : goal.returns-in-Neither-clause-meets
returns-in-Neither-clause-meets g c not = row (peeks c.in_ok-token.ensures (by (statement_as c.args.around) c.in-Neither.ensures (refuses c.in_ok-token.ensures c.refused.ensures)))
