use Rattle.std.proofs.Common.{refl, sym, arith}
use Rattle.script_grammar.specs.Grammar.{grammar, as_read, deleted_by}
use Rattle.script_grammar.specs.Rules.Symbol.{Deleted}
use Rattle.script_grammar.proofs.Along.{row, gives, peeks, peeks_end, by, yes, no, passes_level, fails_level, at, onward, handed}
use Rattle.script_grammar.proofs.Tokens.{live_tail}
use Rattle.expression_rows.proofs.deeper.Grammar.+deleted.Goals as goal

pub returns-in_err-made-in-Computed-clause-meets : goal.returns-in_err-made-in-Computed-clause-meets
returns-in_err-made-in-Computed-clause-meets g t c = handed (Deleted c.args.left c.args.height) c.args.base (grammar (Deleted c.args.left c.args.height)) c.args.tokens.now c.from_residual.result c.from_residual.ensures.1
    (λ not. peeks c.in-Ok.ensures (by (λ x. deleted_by c.args.left c.args.height c.in-Ok.token.now x) c.in-Computed.ensures (at c.in-Ok.ensures ((c.in_err-made-in-Computed.ensures.part not).row c.in-Ok.token.now _ _ (λ made tall. as_read (Deleted made tall) (λ v. v)) (live_tail c.in-Ok.token.now _ (sym c.in-Computed.ensures) (λ q. cc))))))

pub returns-in_err-all-in-Computed-clause-meets : goal.returns-in_err-all-in-Computed-clause-meets
returns-in_err-all-in-Computed-clause-meets g t c = handed (Deleted c.args.left c.args.height) c.args.base (grammar (Deleted c.args.left c.args.height)) c.args.tokens.now c.from_residual-in_err-all-in-Computed.result c.from_residual-in_err-all-in-Computed.ensures.1
    (λ not. peeks c.in-Ok.ensures (by (λ x. deleted_by c.args.left c.args.height c.in-Ok.token.now x) c.in-Computed.ensures (at c.in-Ok.ensures (c.in_ok-made-in-Computed.ensures.part.row c.in-Ok.token.now _ _ (λ made tall. as_read (Deleted made tall) (λ v. v)) _ (live_tail c.in-Ok.token.now _ (sym c.in-Computed.ensures) (λ q. cc)) (fails_level (c.in_err-all-in-Computed.ensures.meets not))))))

pub returns-in_ok-all-in-Computed-clause-meets : goal.returns-in_ok-all-in-Computed-clause-meets
returns-in_ok-all-in-Computed-clause-meets g t c = row (peeks c.in-Ok.ensures (by (λ x. deleted_by c.args.left c.args.height c.in-Ok.token.now x) c.in-Computed.ensures (at c.in-Ok.ensures (c.in_ok-made-in-Computed.ensures.part.row c.in-Ok.token.now _ _ (λ made tall. as_read (Deleted made tall) (λ v. v)) _ (live_tail c.in-Ok.token.now _ (sym c.in-Computed.ensures) (λ q. cc)) (passes_level c.in_ok-all-in-Computed.ensures.meets (gives refl (omega arith)))))))

pub returns-in_err-made-in-Fixed-clause-meets : goal.returns-in_err-made-in-Fixed-clause-meets
returns-in_err-made-in-Fixed-clause-meets g t c = handed (Deleted c.args.left c.args.height) c.args.base (grammar (Deleted c.args.left c.args.height)) c.args.tokens.now c.from_residual-in_err-made-in-Fixed.result c.from_residual-in_err-made-in-Fixed.ensures.1
    (λ not. peeks c.in-Ok.ensures (by (λ x. deleted_by c.args.left c.args.height c.in-Ok.token.now x) c.in-Fixed.ensures (at c.in-Ok.ensures ((c.in_err-made-in-Fixed.ensures.part not).row c.in-Ok.token.now _ _ (λ made tall. as_read (Deleted made tall) (λ v. v)) (live_tail c.in-Ok.token.now _ (sym c.in-Fixed.ensures) (λ q. cc))))))

pub returns-in_err-all-in-Fixed-clause-meets : goal.returns-in_err-all-in-Fixed-clause-meets
returns-in_err-all-in-Fixed-clause-meets g t c = handed (Deleted c.args.left c.args.height) c.args.base (grammar (Deleted c.args.left c.args.height)) c.args.tokens.now c.from_residual-in_err-all-in-Fixed.result c.from_residual-in_err-all-in-Fixed.ensures.1
    (λ not. peeks c.in-Ok.ensures (by (λ x. deleted_by c.args.left c.args.height c.in-Ok.token.now x) c.in-Fixed.ensures (at c.in-Ok.ensures (c.in_ok-made-in-Fixed.ensures.part.row c.in-Ok.token.now _ _ (λ made tall. as_read (Deleted made tall) (λ v. v)) _ (live_tail c.in-Ok.token.now _ (sym c.in-Fixed.ensures) (λ q. cc)) (fails_level (c.in_err-all-in-Fixed.ensures.meets not))))))

pub returns-in_ok-all-in-Fixed-clause-meets : goal.returns-in_ok-all-in-Fixed-clause-meets
returns-in_ok-all-in-Fixed-clause-meets g t c = row (peeks c.in-Ok.ensures (by (λ x. deleted_by c.args.left c.args.height c.in-Ok.token.now x) c.in-Fixed.ensures (at c.in-Ok.ensures (c.in_ok-made-in-Fixed.ensures.part.row c.in-Ok.token.now _ _ (λ made tall. as_read (Deleted made tall) (λ v. v)) _ (live_tail c.in-Ok.token.now _ (sym c.in-Fixed.ensures) (λ q. cc)) (passes_level c.in_ok-all-in-Fixed.ensures.meets (gives refl (omega arith)))))))

pub returns-in_err-made-in-Call-clause-meets : goal.returns-in_err-made-in-Call-clause-meets
returns-in_err-made-in-Call-clause-meets g t c = handed (Deleted c.args.left c.args.height) c.args.base (grammar (Deleted c.args.left c.args.height)) c.args.tokens.now c.from_residual-in_err-made-in-Call.result c.from_residual-in_err-made-in-Call.ensures.1
    (λ not. peeks c.in-Ok.ensures (by (λ x. deleted_by c.args.left c.args.height c.in-Ok.token.now x) c.in-Call.ensures (at c.in-Ok.ensures ((c.in_err-made-in-Call.ensures.part not).row c.in-Ok.token.now _ _ (λ made tall. as_read (Deleted made tall) (λ v. v)) (live_tail c.in-Ok.token.now _ (sym c.in-Call.ensures) (λ q. cc))))))

pub returns-in_err-all-in-Call-clause-meets : goal.returns-in_err-all-in-Call-clause-meets
returns-in_err-all-in-Call-clause-meets g t c = handed (Deleted c.args.left c.args.height) c.args.base (grammar (Deleted c.args.left c.args.height)) c.args.tokens.now c.from_residual-in_err-all-in-Call.result c.from_residual-in_err-all-in-Call.ensures.1
    (λ not. peeks c.in-Ok.ensures (by (λ x. deleted_by c.args.left c.args.height c.in-Ok.token.now x) c.in-Call.ensures (at c.in-Ok.ensures (c.in_ok-made-in-Call.ensures.part.row c.in-Ok.token.now _ _ (λ made tall. as_read (Deleted made tall) (λ v. v)) _ (live_tail c.in-Ok.token.now _ (sym c.in-Call.ensures) (λ q. cc)) (fails_level (c.in_err-all-in-Call.ensures.meets not))))))

pub returns-in_ok-all-in-Call-clause-meets : goal.returns-in_ok-all-in-Call-clause-meets
returns-in_ok-all-in-Call-clause-meets g t c = row (peeks c.in-Ok.ensures (by (λ x. deleted_by c.args.left c.args.height c.in-Ok.token.now x) c.in-Call.ensures (at c.in-Ok.ensures (c.in_ok-made-in-Call.ensures.part.row c.in-Ok.token.now _ _ (λ made tall. as_read (Deleted made tall) (λ v. v)) _ (live_tail c.in-Ok.token.now _ (sym c.in-Call.ensures) (λ q. cc)) (passes_level c.in_ok-all-in-Call.ensures.meets (gives refl (omega arith)))))))

pub returns-in-Neither-clause-meets : goal.returns-in-Neither-clause-meets
returns-in-Neither-clause-meets g t c = onward c.deleted_end.result (λ o w. peeks c.in-Ok.ensures (by (λ x. deleted_by c.args.left c.args.height c.in-Ok.token.now x) c.in-Neither.ensures w)) c.deleted_end.ensures.end

pub returns-in-Err-clause-meets : goal.returns-in-Err-clause-meets
returns-in-Err-clause-meets g t c _ = row (peeks_end c.in-Err.ensures.0 c.in-Err.ensures.1)
