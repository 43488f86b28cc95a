-- The table and the productions agree on expressions.
use Rattle.std.proofs.Common.{ℕ, ◌+◌, ◌≤◌, Bool, true, List, [], Ok}
use Rattle.js_lexer.specs.declared.Token.{Token}
use Rattle.script_grammar.specs.declared.classes.Operand.{Operand}
use Rattle.script_grammar.specs.Rules.{Symbol as s}
use Rattle.script_grammar.specs.Grammar.{grammar}
use Rattle.script_grammar.specs.Goes.{Goes}
use Rattle.script_grammar.specs.Paths.{Table}
use Rattle.script_grammar.specs.Productions.{Reads}
use Rattle.script_grammar.specs.Productions.{Part as p}
use Rattle.script_grammar.proofs.Paths.{at_limit, from_limit}
use Rattle.script_grammar.proofs.FromTable.{from_table}
use Rattle.script_grammar.proofs.ToTable.{into}
use Rattle.script_grammar.proofs.Sentences.{sentences}
use Rattle.script_grammar.proofs.IntoStates.{put}
use Rattle.script_grammar.specs.States.{States}
use Rattle.script_grammar.specs.States.{Part as state}
use Rattle.js_tree.specs.declared.Script as script

pub by_productions : {L b : ℕ} {no_in : Bool} {ts rest : List Token} {v : Operand} {h : ℕ}
    → Goes L (s.Expr no_in) b (grammar (s.Expr no_in)) ts (Ok record { value = v; height = h; rest = rest }) → Reads (Table (s.Elements true [] [])) (p.Expr no_in) ts v h rest
by_productions g = from_table (from_limit g)

pub by_table : (L b : ℕ) {no_in : Bool} {ts rest : List Token} {v : Operand} {h : ℕ} → Reads (Table (s.Elements true [] [])) (p.Expr no_in) ts v h rest → b + h ≤ L
    → Goes L (s.Expr no_in) b (grammar (s.Expr no_in)) ts (Ok record { value = v; height = h; rest = rest })
by_table L b g le = at_limit (into g) L b le

pub script_by_productions : {L b : ℕ} {ts rest : List Token} {v : script.Script} {h : ℕ}
    → Goes L s.Script b (grammar s.Script) ts (Ok record { value = v; height = h; rest = rest }) → States (Table (s.Elements true [] [])) state.Script ts v h rest
script_by_productions g = sentences (from_limit g)

pub script_by_table : (L b : ℕ) {ts rest : List Token} {v : script.Script} {h : ℕ} → States (Table (s.Elements true [] [])) state.Script ts v h rest → b + h ≤ L
    → Goes L s.Script b (grammar s.Script) ts (Ok record { value = v; height = h; rest = rest })
script_by_table L b g le = at_limit (put g) L b le
