use Rattle.std.proofs.Common.{◌≡◌, ◌∙◌, sym, ap, ℕ, suc, ◌+◌, ◌-◌, ◌<◌, ◌++◌, [], arith}
use Rattle.std.specs.Prelude.{if◌then◌else◌, ◌==◌}
use Rattle.turk_base.specs.Names.{Name, Units}
use Rattle.turk_base.specs.Prog.{Prog, Get, ask}
use Rattle.turk_base.specs.Errors.{index_text}
use Rattle.turk_base.specs.BuiltIns as spec
use Rattle.builtin_calls.proofs.Moves.{takes_out, leads_then, leads_out, leads_same, gives_on, leaves_on, out_lost}
use Rattle.builtin_calls.proofs.arrays.joined.Goals as goal

-- what is left where there is a next element
next : (a : Name) (sep text : Units) (i n : ℕ) (go : Units → Prog) → i < n
    → spec.joined a sep (n - i) i text go ≡ ask (Get a (index_text i)) (λ v. spec.item_text v (λ t. spec.joined a sep (n - (i + 1)) (i + 1) (text ++ (if i == 0 then t else sep ++ t)) go))
next a sep text i n go h = let e : n - i ≡ suc (n - (i + 1)) = omega arith in let f : suc i ≡ i + 1 = omega arith in
    ap (λ k. spec.joined a sep k i text go) e ∙ ap (λ j. ask (Get a (index_text i)) (λ v. spec.item_text v (λ t. spec.joined a sep (n - (i + 1)) j (text ++ (if i == 0 then t else sep ++ t)) go))) f

pub loop-i-init : goal.loop-i-init
loop-i-init g c = let e : c.args.length ≡ c.args.length - 0 = omega arith in
    record { same = leads_same (λ nu go. ap (λ k. spec.joined (nu c.args.this) c.args.separator.now k 0 [] go) e ∙ ap (λ t. spec.joined (nu c.args.this) c.args.separator.now (c.args.length - 0) 0 t go) (sym c.new-text.ensures)); more = omega arith }

pub text_at-requires : goal.text_at-requires
text_at-requires g c = omega (arith, c.loop-i.invariant.more, c.requires)

pub returns-in_err-piece-clause-did : goal.returns-in_err-piece-clause-did
returns-in_err-piece-clause-did g c = let i = c.loop-i.i in let n = c.args.length in let sep = c.args.separator.now in
    takes_out _ c.from_residual.result c.from_residual.ensures.1
    (leads_out (leads_then c.loop-i.invariant.same (leads_same (λ nu go. next (nu c.args.this) sep c.loop-i.text i n go c.loop-i-test.true)))
    (leaves_on c.in_err-piece.ensures.did (λ nu t. spec.joined (nu c.args.this) sep (n - (i + 1)) (i + 1) (c.loop-i.text ++ (if i == 0 then t else sep ++ t)))))

pub returns-in_err-add_text-clause-did : goal.returns-in_err-add_text-clause-did
returns-in_err-add_text-clause-did g c = let i = c.loop-i.i in let n = c.args.length in let sep = c.args.separator.now in
    takes_out _ c.from_residual-in_err-add_text.result c.from_residual-in_err-add_text.ensures.1
    (out_lost (leads_then (leads_then c.loop-i.invariant.same (leads_same (λ nu go. next (nu c.args.this) sep c.loop-i.text i n go c.loop-i-test.true)))
    (gives_on c.in_ok-piece.ensures.did (λ nu t. spec.joined (nu c.args.this) sep (n - (i + 1)) (i + 1) (c.loop-i.text ++ (if i == 0 then t else sep ++ t))))))

pub loop-i-preserved : goal.loop-i-preserved
loop-i-preserved g c = let i = c.loop-i.i in let n = c.args.length in let sep = c.args.separator.now in
    record {
      same = leads_then (leads_then (leads_then c.loop-i.invariant.same (leads_same (λ nu go. next (nu c.args.this) sep c.loop-i.text i n go c.loop-i-test.true)))
          (gives_on c.in_ok-piece.ensures.did (λ nu t. spec.joined (nu c.args.this) sep (n - (i + 1)) (i + 1) (c.loop-i.text ++ (if i == 0 then t else sep ++ t)))))
          (leads_same (λ nu go. ap (λ t. spec.joined (nu c.args.this) sep (n - (i + 1)) (i + 1) t go) (sym c.in_ok-add_text.ensures)));
      more = omega (arith, c.loop-i.invariant.more, c.in_ok-piece.ensures.more);
    }

pub returns-clause-did : goal.returns-clause-did
returns-clause-did g c = let e : c.args.length - c.loop-i.i ≡ 0 = omega (arith, c.loop-i-test.false) in
    leads_then c.loop-i.invariant.same (leads_same (λ nu go. ap (λ k. spec.joined (nu c.args.this) c.args.separator.now k c.loop-i.i c.loop-i.text go) e))
