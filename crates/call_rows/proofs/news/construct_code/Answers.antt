use Rattle.call_steps.proofs.Others.{prototype_of}
use Rattle.host_steps.proofs.Made.{runs_as}
use Rattle.js_tree.specs.Calls.{call_code, constructed, prototype_in}
use Rattle.js_tree.specs.Rows.{stmt_to}
use Rattle.run_host.proofs.Exits.{first_out, value_exit}
use Rattle.run_host.proofs.Fits.{runs_left, runs_on}
use Rattle.run_host.proofs.Sequence.{ends_with, no_memory, then_on}
use Rattle.std.proofs.Common.{List, ap, sym, ◌∙◌}
use Rattle.std.specs.Option.{option_map}
use Rattle.std.specs.Prelude.{Option, codes, map, slice_get}
use Rattle.tree_rows.specs.Codes.{table_in}
use Rattle.turk_base.specs.Names.{Name}
use Rattle.turk_base.specs.Prog.{Make, Prog, Then, ask, value}
use Rattle.turk_base.specs.Values.{Object, Plain, Val}
use Rattle.value_cells.specs.Seen.{Naming, val_in}
use Rattle.value_rows.proofs.Given.{get_out_under, get_under}
use Rattle.call_rows.proofs.news.construct_code.Goals as goal

pub returns-in_err-key-clause-ran : goal.returns-in_err-key-clause-ran
returns-in_err-key-clause-ran g c = value_exit _ _ c.from_residual.ensures.1 no_memory

pub returns-in_err-found-clause-ran : goal.returns-in_err-found-clause-ran
returns-in_err-found-clause-ran g c = let t = table_in c.args.codes.now in let s = stmt_to t c.args.below.now.left in let a : Naming → List Val = λ nu. map (val_in nu) c.args.arguments.now in let last : Naming → Name → Val → Prog = λ nu o v. value (constructed t s o v) in let second : Naming → Name → Prog = λ nu o. Then (call_code t s (slice_get t c.args.number) (nu c.args.around) (Object o) (a nu)) (last nu o) in let first : Naming → Option Val → Prog = λ nu p. ask (Make (Plain (prototype_in t s p))) (second nu) in
    value_exit _ _ c.from_residual-in_err-found.ensures.1 (runs_left first (get_out_under {at = λ nu. nu c.args.cell} (codes "prototype") c.in_ok-key.ensures c.in_err-found.ensures.did))

pub returns-in_err-made-clause-ran : goal.returns-in_err-made-clause-ran
returns-in_err-made-clause-ran g c = let t = table_in c.args.codes.now in let s = stmt_to t c.args.below.now.left in let a : Naming → List Val = λ nu. map (val_in nu) c.args.arguments.now in let last : Naming → Name → Val → Prog = λ nu o v. value (constructed t s o v) in let second : Naming → Name → Prog = λ nu o. Then (call_code t s (slice_get t c.args.number) (nu c.args.around) (Object o) (a nu)) (last nu o) in let first : Naming → Option Val → Prog = λ nu p. ask (Make (Plain (prototype_in t s p))) (second nu) in
    value_exit _ _ c.from_residual-in_err-made.ensures.1 (runs_on first (get_under {at = λ nu. nu c.args.cell} (codes "prototype") c.in_ok-key.ensures c.in_ok-found.ensures.did) (runs_as (λ nu. ap (λ p. ask (Make (Plain p)) (second nu)) (prototype_of t s c.in_ok-found.found nu ∙ ap (option_map nu) (sym c.object_in.ensures.cell))) (runs_left second c.in_err-made.ensures.did)))

pub returns-in_err-value-clause-ran : goal.returns-in_err-value-clause-ran
returns-in_err-value-clause-ran g c = let t = table_in c.args.codes.now in let s = stmt_to t c.args.below.now.left in let a : Naming → List Val = λ nu. map (val_in nu) c.args.arguments.now in let last : Naming → Name → Val → Prog = λ nu o v. value (constructed t s o v) in let second : Naming → Name → Prog = λ nu o. Then (call_code t s (slice_get t c.args.number) (nu c.args.around) (Object o) (a nu)) (last nu o) in let first : Naming → Option Val → Prog = λ nu p. ask (Make (Plain (prototype_in t s p))) (second nu) in
    value_exit _ _ c.from_residual-in_err-value.ensures.1 (runs_on first (get_under {at = λ nu. nu c.args.cell} (codes "prototype") c.in_ok-key.ensures c.in_ok-found.ensures.did) (runs_as (λ nu. ap (λ p. ask (Make (Plain p)) (second nu)) (prototype_of t s c.in_ok-found.found nu ∙ ap (option_map nu) (sym c.object_in.ensures.cell))) (runs_on second c.in_ok-made.ensures.did (first_out (λ nu v. last nu (nu c.in_ok-made.made) v) _ c.in_err-value.ensures.ran))))

pub returns-clause-ran : goal.returns-clause-ran
returns-clause-ran g c = let t = table_in c.args.codes.now in let s = stmt_to t c.args.below.now.left in let a : Naming → List Val = λ nu. map (val_in nu) c.args.arguments.now in let last : Naming → Name → Val → Prog = λ nu o v. value (constructed t s o v) in let second : Naming → Name → Prog = λ nu o. Then (call_code t s (slice_get t c.args.number) (nu c.args.around) (Object o) (a nu)) (last nu o) in let first : Naming → Option Val → Prog = λ nu p. ask (Make (Plain (prototype_in t s p))) (second nu) in
    runs_on first (get_under {at = λ nu. nu c.args.cell} (codes "prototype") c.in_ok-key.ensures c.in_ok-found.ensures.did) (runs_as (λ nu. ap (λ p. ask (Make (Plain p)) (second nu)) (prototype_of t s c.in_ok-found.found nu ∙ ap (option_map nu) (sym c.object_in.ensures.cell))) (runs_on second c.in_ok-made.ensures.did (then_on (λ nu v. last nu (nu c.in_ok-made.made) v) c.in_ok-value.ensures.ran (runs_as (λ nu. ap value (c.kept.ensures.value t s nu)) ends_with))))
