use Rattle.script_grammar.proofs.Agree.{by_productions, by_table, script_by_productions, script_by_table}
use Rattle.script_grammar.proofs.laws.productions_agree.Goals as goal

pub returns-clause-by_productions : goal.returns-clause-by_productions
returns-clause-by_productions c limit base no_in ts rest v h g = by_productions g

pub returns-clause-by_table : goal.returns-clause-by_table
returns-clause-by_table c limit base no_in ts rest v h g le = by_table limit base g le

pub returns-clause-script : goal.returns-clause-script
returns-clause-script c limit base ts rest v h g = script_by_productions g

pub returns-clause-script_back : goal.returns-clause-script_back
returns-clause-script_back c limit base ts rest v h g le = script_by_table limit base g le
