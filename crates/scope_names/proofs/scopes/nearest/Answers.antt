use Rattle.std.proofs.Common.{◌≡◌, ◌∙◌, sym, refl, ◌<◌, ◌≤◌, arith, length}
use Rattle.scope_names.specs.Shown.{frame_shown}
use Rattle.scope_names.proofs.ScopeLemmas.{shown_at, passed, shown_within}
use Rattle.scope_names.proofs.scopes.nearest.Goals as goal

pub returns-then-has : goal.returns-then-has
returns-then-has c = record {
  frame = frame_shown c.index-frames-count.result;
  stands = shown_at _ _ _ c.loop-out-test.true c.index-frames-count.is;
  declared = sym c.has.ensures ∙ c.if-has.true;
  marked = refl;
  first = c.loop-out.invariant;
}

pub loop-out-preserved : goal.loop-out-preserved
loop-out-preserved c = passed _ _ _ _ c.loop-out.invariant c.loop-out-test.true c.index-frames-count.is (sym c.has.ensures ∙ c.if-has.false)

pub returns-then-is_built_in : goal.returns-then-is_built_in
returns-then-is_built_in c = (
  λ k f at. (let within : k < length c.args.frames.now = shown_within c.args.frames.now k f at in c.loop-out.invariant k f (omega arith) at),
  sym c.is_built_in.ensures ∙ c.if-is_built_in.true,
  refl,
)

pub returns-else-is_built_in : goal.returns-else-is_built_in
returns-else-is_built_in c = (
  λ k f at. (let within : k < length c.args.frames.now = shown_within c.args.frames.now k f at in c.loop-out.invariant k f (omega arith) at),
  sym c.is_built_in.ensures ∙ c.if-is_built_in.false,
  refl,
)
