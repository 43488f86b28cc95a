-- What the walk does with a node, from what it does with its parts.
use Rattle.std.specs.Prelude.{ℕ, zero, suc, ◌+◌, ◌≤◌, ◌≡◌, refl, List, [], ◌∷◌, ◌++◌, Option, Some, None, map}
use Rattle.std.specs.Option.{option_map}
use Rattle.std.proofs.Common.{arith, ap, sym, ◌∙◌, subst}
use Rattle.js_tree.specs.declared.ExprNode.{ExprNode, out-ExprNode, out-roll-ExprNode}
use Rattle.js_tree.specs.declared.ExprNode.TheOpen.{ExprNode-F}
use Rattle.js_tree.specs.declared.ExprNode.TheVariants as e
use Rattle.js_tree.specs.declared.UnaryOperator.{UnaryOperator}
use Rattle.js_tree.specs.declared.BinaryOperator.{BinaryOperator}
use Rattle.js_tree.specs.declared.Sign.{Sign}
use Rattle.js_tree.specs.declared.Fix.{Fix}
use Rattle.js_tree.specs.declared.Literal.{Literal}
use Rattle.js_tree.specs.declared.Named.{Named}
use Rattle.js_tree.specs.declared.Key.{Key, out-Key}
use Rattle.js_tree.specs.declared.Field.{Field}
use Rattle.js_tree.specs.declared.Script.{Script}
use Rattle.js_tree.specs.declared.Expr.{Expr}
use Rattle.js_tree.specs.declared.Stmt.{Stmt}
use Rattle.js_tree.specs.declared.Declaration.{Declaration}
use Rattle.turk_base.specs.Names.{Units}
use Rattle.js_tree.specs.Trees.{ExprLevel, expr_level, expr_of}
use Rattle.js_tree.specs.Table.{Codes, in_expr, expr_codes, stmt_codes, body_codes}
use Rattle.js_tree.specs.Lawful.{ExprWithin, StmtWithin, DeclarationWithin, LawfulExpr, Target, TargetNode, around_script}
use Rattle.js_tree.specs.OpenTree.{opens_tree}
use Rattle.js_tree.specs.Binds.{Frames, ExprBound, StmtBound, DeclarationBound, BoundExpr, BoundName}
use Rattle.js_tree.specs.Bare.{expr_bare, stmt_bare, declaration_bare, bare_expr, bare_named}
use Rattle.js_tree.specs.NameCount.{expr_count, stmt_count, declaration_count, count_expr}
use Rattle.scope_names.specs.declared.walk.Walk.{Walk}
use Rattle.scope_names.specs.Walks.{Part, Kind, Resolves, list_kind, option_kind}
use Rattle.scope_names.specs.Kinds.{expr_kind, field_kind, key_kind, body_kind}
use Rattle.scope_names.proofs.WalkParts.{none, two, three, raised}

pub below : (m : ℕ) → suc (m + m) ≤ suc m + suc m
below m = omega arith

pub expr_at : (m : ℕ) {w w' : Walk} {n L : ℕ} {f : ℕ → Codes} {A : Codes → Frames → Type 0} (x y : Expr) (N K : ExprLevel) → expr_level x ≡ N → expr_level y ≡ K → suc L ≤ suc m + suc m
    → n ≡ count_expr (expr_count m) (stmt_count m) (declaration_count m) N
    → ((d : ℕ) → in_expr (expr_codes d) (stmt_codes d) (body_codes d) K ≡ f d)
    → ((table : Codes) (frames : Frames) → A table frames → BoundExpr table (ExprBound table m) (StmtBound table m) (DeclarationBound table m) frames K)
    → bare_expr (expr_bare m) (stmt_bare m) (declaration_bare m) K ≡ bare_expr (expr_bare m) (stmt_bare m) (declaration_bare m) N
    → (LawfulExpr (ExprWithin m) (StmtWithin m) (DeclarationWithin m) N → LawfulExpr (ExprWithin m) (StmtWithin m) (DeclarationWithin m) K)
    → Part w w' n f L A → Resolves (expr_kind (suc m)) w x y w'
unfolding expr_codes expr_count ExprBound expr_bare ExprWithin
expr_at m x y N K ex ey less count codes bound same lawful p = record {
  part = raised less (count ∙ ap (count_expr (expr_count m) (stmt_count m) (declaration_count m)) (sym ex))
      (λ d. ap (in_expr (expr_codes d) (stmt_codes d) (body_codes d)) ey ∙ codes d)
      (λ table frames h. subst (BoundExpr table (ExprBound table m) (StmtBound table m) (DeclarationBound table m) frames) (sym ey) (bound table frames h)) p;
  same = ap expr_of (ap (bare_expr (expr_bare m) (stmt_bare m) (declaration_bare m)) ey ∙ same ∙ ap (bare_expr (expr_bare m) (stmt_bare m) (declaration_bare m)) (sym ex));
  lawful = λ c h. subst (LawfulExpr (ExprWithin m) (StmtWithin m) (DeclarationWithin m)) (sym ey) (lawful (subst (LawfulExpr (ExprWithin m) (StmtWithin m) (DeclarationWithin m)) ex h));
}

-- a target stays one
target_node : (E : Expr → Expr) (S : Stmt → Stmt) (D : Declaration → Declaration) (node : ExprLevel) → TargetNode (out-ExprNode (bare_expr E S D node)) → TargetNode node
unfolding opens_tree
target_node E S D (ExprNode-F.Name x) h = tt
target_node E S D (ExprNode-F.Member b k) h = tt
target_node E S D node h = h

target_bare : (E : Expr → Expr) (S : Stmt → Stmt) (D : Declaration → Declaration) (node : ExprLevel) → TargetNode node → TargetNode (out-ExprNode (bare_expr E S D node))
unfolding opens_tree
target_bare E S D (ExprNode-F.Name x) h = tt
target_bare E S D (ExprNode-F.Member b k) h = tt
target_bare E S D node h = h

pub target_kept : (m : ℕ) (a b : Expr) → expr_bare m b ≡ expr_bare m a → Target a → Target b
unfolding expr_bare
target_kept zero a b e h = subst Target (sym e) h
target_kept (suc m) a b e h =
    target_node (expr_bare m) (stmt_bare m) (declaration_bare m) (expr_level b) (subst Target (sym e) (target_bare (expr_bare m) (stmt_bare m) (declaration_bare m) (expr_level a) h))

pub this_made : (m : ℕ) {w : Walk} (x : Expr) → x.node ≡ e.This → Resolves (expr_kind (suc m)) w x (expr_of (e.This)) w
this_made m {w} x at =
    expr_at m x (expr_of (e.This)) ExprNode-F.This ExprNode-F.This (ap out-ExprNode (at ∙ sym (e.rolls-This)) ∙ out-roll-ExprNode ExprNode-F.This) (ap out-ExprNode (sym (e.rolls-This)) ∙ out-roll-ExprNode ExprNode-F.This) (below m)
    refl (λ d. refl) (λ table frames h. h) refl (λ h. h) (none w (m + m))

pub join_made : (m : ℕ) {w : Walk} (x : Expr) → x.node ≡ e.Join → Resolves (expr_kind (suc m)) w x (expr_of (e.Join)) w
join_made m {w} x at =
    expr_at m x (expr_of (e.Join)) ExprNode-F.Join ExprNode-F.Join (ap out-ExprNode (at ∙ sym (e.rolls-Join)) ∙ out-roll-ExprNode ExprNode-F.Join) (ap out-ExprNode (sym (e.rolls-Join)) ∙ out-roll-ExprNode ExprNode-F.Join) (below m)
    refl (λ d. refl) (λ table frames h. h) refl (λ h. h) (none w (m + m))

pub crash_made : (m : ℕ) {w : Walk} (x : Expr) → x.node ≡ e.Crash → Resolves (expr_kind (suc m)) w x (expr_of (e.Crash)) w
crash_made m {w} x at =
    expr_at m x (expr_of (e.Crash)) ExprNode-F.Crash ExprNode-F.Crash (ap out-ExprNode (at ∙ sym (e.rolls-Crash)) ∙ out-roll-ExprNode ExprNode-F.Crash) (ap out-ExprNode (sym (e.rolls-Crash)) ∙ out-roll-ExprNode ExprNode-F.Crash) (below m)
    refl (λ d. refl) (λ table frames h. h) refl (λ h. h) (none w (m + m))

pub void_made : (m : ℕ) {w w' : Walk} (x : Expr) {a b : Expr} → x.node ≡ e.Void a → Resolves (expr_kind m) w a b w' → Resolves (expr_kind (suc m)) w x (expr_of (e.Void b)) w'
void_made m {w} {w'} x {a} {b} at r0 =
    expr_at m x (expr_of (e.Void b)) (ExprNode-F.Void a) (ExprNode-F.Void b) (ap out-ExprNode (at ∙ sym (e.rolls-Void a)) ∙ out-roll-ExprNode (ExprNode-F.Void a)) (ap out-ExprNode (sym (e.rolls-Void b)) ∙ out-roll-ExprNode (ExprNode-F.Void b)) (below m)
    refl (λ d. refl) (λ table frames h. h) (ap e.Void r0.same) (λ h. r0.lawful around_script h) r0.part

pub typeof_made : (m : ℕ) {w w' : Walk} (x : Expr) {a b : Expr} → x.node ≡ e.Typeof a → Resolves (expr_kind m) w a b w' → Resolves (expr_kind (suc m)) w x (expr_of (e.Typeof b)) w'
typeof_made m {w} {w'} x {a} {b} at r0 =
    expr_at m x (expr_of (e.Typeof b)) (ExprNode-F.Typeof a) (ExprNode-F.Typeof b) (ap out-ExprNode (at ∙ sym (e.rolls-Typeof a)) ∙ out-roll-ExprNode (ExprNode-F.Typeof a)) (ap out-ExprNode (sym (e.rolls-Typeof b)) ∙ out-roll-ExprNode (ExprNode-F.Typeof b)) (below m)
    refl (λ d. refl) (λ table frames h. h) (ap e.Typeof r0.same) (λ h. r0.lawful around_script h) r0.part

pub post_made : (m : ℕ) {w w' : Walk} (x : Expr) {a b : Expr} → x.node ≡ e.Post a → Resolves (expr_kind m) w a b w' → Resolves (expr_kind (suc m)) w x (expr_of (e.Post b)) w'
post_made m {w} {w'} x {a} {b} at r0 =
    expr_at m x (expr_of (e.Post b)) (ExprNode-F.Post a) (ExprNode-F.Post b) (ap out-ExprNode (at ∙ sym (e.rolls-Post a)) ∙ out-roll-ExprNode (ExprNode-F.Post a)) (ap out-ExprNode (sym (e.rolls-Post b)) ∙ out-roll-ExprNode (ExprNode-F.Post b)) (below m)
    refl (λ d. refl) (λ table frames h. h) (ap e.Post r0.same) (λ h. r0.lawful around_script h) r0.part

pub reply_made : (m : ℕ) {w w' : Walk} (x : Expr) {a b : Expr} → x.node ≡ e.Reply a → Resolves (expr_kind m) w a b w' → Resolves (expr_kind (suc m)) w x (expr_of (e.Reply b)) w'
reply_made m {w} {w'} x {a} {b} at r0 =
    expr_at m x (expr_of (e.Reply b)) (ExprNode-F.Reply a) (ExprNode-F.Reply b) (ap out-ExprNode (at ∙ sym (e.rolls-Reply a)) ∙ out-roll-ExprNode (ExprNode-F.Reply a)) (ap out-ExprNode (sym (e.rolls-Reply b)) ∙ out-roll-ExprNode (ExprNode-F.Reply b)) (below m)
    refl (λ d. refl) (λ table frames h. h) (ap e.Reply r0.same) (λ h. r0.lawful around_script h) r0.part

pub prompt_made : (m : ℕ) {w w' : Walk} (x : Expr) {a b : Expr} → x.node ≡ e.Prompt a → Resolves (expr_kind m) w a b w' → Resolves (expr_kind (suc m)) w x (expr_of (e.Prompt b)) w'
prompt_made m {w} {w'} x {a} {b} at r0 =
    expr_at m x (expr_of (e.Prompt b)) (ExprNode-F.Prompt a) (ExprNode-F.Prompt b) (ap out-ExprNode (at ∙ sym (e.rolls-Prompt a)) ∙ out-roll-ExprNode (ExprNode-F.Prompt a)) (ap out-ExprNode (sym (e.rolls-Prompt b)) ∙ out-roll-ExprNode (ExprNode-F.Prompt b)) (below m)
    refl (λ d. refl) (λ table frames h. h) (ap e.Prompt r0.same) (λ h. r0.lawful around_script h) r0.part

pub random_made : (m : ℕ) {w w' : Walk} (x : Expr) {a b : Expr} → x.node ≡ e.Random a → Resolves (expr_kind m) w a b w' → Resolves (expr_kind (suc m)) w x (expr_of (e.Random b)) w'
random_made m {w} {w'} x {a} {b} at r0 =
    expr_at m x (expr_of (e.Random b)) (ExprNode-F.Random a) (ExprNode-F.Random b) (ap out-ExprNode (at ∙ sym (e.rolls-Random a)) ∙ out-roll-ExprNode (ExprNode-F.Random a)) (ap out-ExprNode (sym (e.rolls-Random b)) ∙ out-roll-ExprNode (ExprNode-F.Random b)) (below m)
    refl (λ d. refl) (λ table frames h. h) (ap e.Random r0.same) (λ h. r0.lawful around_script h) r0.part

pub once_made : (m : ℕ) {w w' : Walk} (x : Expr) {a b : Expr} → x.node ≡ e.Once a → Resolves (expr_kind m) w a b w' → Resolves (expr_kind (suc m)) w x (expr_of (e.Once b)) w'
once_made m {w} {w'} x {a} {b} at r0 =
    expr_at m x (expr_of (e.Once b)) (ExprNode-F.Once a) (ExprNode-F.Once b) (ap out-ExprNode (at ∙ sym (e.rolls-Once a)) ∙ out-roll-ExprNode (ExprNode-F.Once a)) (ap out-ExprNode (sym (e.rolls-Once b)) ∙ out-roll-ExprNode (ExprNode-F.Once b)) (below m)
    refl (λ d. refl) (λ table frames h. h) (ap e.Once r0.same) (λ h. r0.lawful around_script h) r0.part

pub fork_made : (m : ℕ) {w w' : Walk} (x : Expr) {a b : Expr} → x.node ≡ e.Fork a → Resolves (expr_kind m) w a b w' → Resolves (expr_kind (suc m)) w x (expr_of (e.Fork b)) w'
fork_made m {w} {w'} x {a} {b} at r0 =
    expr_at m x (expr_of (e.Fork b)) (ExprNode-F.Fork a) (ExprNode-F.Fork b) (ap out-ExprNode (at ∙ sym (e.rolls-Fork a)) ∙ out-roll-ExprNode (ExprNode-F.Fork a)) (ap out-ExprNode (sym (e.rolls-Fork b)) ∙ out-roll-ExprNode (ExprNode-F.Fork b)) (below m)
    refl (λ d. refl) (λ table frames h. h) (ap e.Fork r0.same) (λ h. r0.lawful around_script h) r0.part

pub unary_made : (m : ℕ) {w w' : Walk} (x : Expr) {o : UnaryOperator} {a b : Expr} → x.node ≡ e.Unary o a → Resolves (expr_kind m) w a b w' → Resolves (expr_kind (suc m)) w x (expr_of (e.Unary o b)) w'
unary_made m {w} {w'} x {o} {a} {b} at r0 =
    expr_at m x (expr_of (e.Unary o b)) (ExprNode-F.Unary o a) (ExprNode-F.Unary o b) (ap out-ExprNode (at ∙ sym (e.rolls-Unary o a)) ∙ out-roll-ExprNode (ExprNode-F.Unary o a)) (ap out-ExprNode (sym (e.rolls-Unary o b)) ∙ out-roll-ExprNode (ExprNode-F.Unary o b)) (below m)
    refl (λ d. refl) (λ table frames h. h) (ap (e.Unary o) r0.same) (λ h. r0.lawful around_script h) r0.part

pub update_made : (m : ℕ) {w w' : Walk} (x : Expr) {a b : Expr} {sign : Sign} {fix : Fix} → x.node ≡ e.Update a sign fix → Resolves (expr_kind m) w a b w' → Resolves (expr_kind (suc m)) w x (expr_of (e.Update b sign fix)) w'
update_made m {w} {w'} x {a} {b} {sign} {fix} at r0 =
    expr_at m x (expr_of (e.Update b sign fix)) (ExprNode-F.Update a sign fix) (ExprNode-F.Update b sign fix) (ap out-ExprNode (at ∙ sym (e.rolls-Update a sign fix)) ∙ out-roll-ExprNode (ExprNode-F.Update a sign fix)) (ap out-ExprNode (sym (e.rolls-Update b sign fix)) ∙ out-roll-ExprNode (ExprNode-F.Update b sign fix)) (below m)
    refl (λ d. refl) (λ table frames h. h) (ap (λ z. e.Update z sign fix) r0.same) (λ h. (target_kept m a b r0.same h.0, r0.lawful around_script h.1)) r0.part

pub and_made : (m : ℕ) {w v w' : Walk} (x : Expr) {a b c d : Expr} → x.node ≡ e.And a b → Resolves (expr_kind m) w a c v → Resolves (expr_kind m) v b d w' → Resolves (expr_kind (suc m)) w x (expr_of (e.And c d)) w'
and_made m {w} {v} {w'} x {a} {b} {c} {d} at r0 r1 =
    expr_at m x (expr_of (e.And c d)) (ExprNode-F.And a b) (ExprNode-F.And c d) (ap out-ExprNode (at ∙ sym (e.rolls-And a b)) ∙ out-roll-ExprNode (ExprNode-F.And a b)) (ap out-ExprNode (sym (e.rolls-And c d)) ∙ out-roll-ExprNode (ExprNode-F.And c d)) (below m)
    refl (λ d. refl) (λ table frames h. h) (λ i. e.And (r0.same i) (r1.same i)) (λ h. (r0.lawful around_script h.0, r1.lawful around_script h.1)) (two r0.part r1.part)

pub or_made : (m : ℕ) {w v w' : Walk} (x : Expr) {a b c d : Expr} → x.node ≡ e.Or a b → Resolves (expr_kind m) w a c v → Resolves (expr_kind m) v b d w' → Resolves (expr_kind (suc m)) w x (expr_of (e.Or c d)) w'
or_made m {w} {v} {w'} x {a} {b} {c} {d} at r0 r1 =
    expr_at m x (expr_of (e.Or c d)) (ExprNode-F.Or a b) (ExprNode-F.Or c d) (ap out-ExprNode (at ∙ sym (e.rolls-Or a b)) ∙ out-roll-ExprNode (ExprNode-F.Or a b)) (ap out-ExprNode (sym (e.rolls-Or c d)) ∙ out-roll-ExprNode (ExprNode-F.Or c d)) (below m)
    refl (λ d. refl) (λ table frames h. h) (λ i. e.Or (r0.same i) (r1.same i)) (λ h. (r0.lawful around_script h.0, r1.lawful around_script h.1)) (two r0.part r1.part)

pub comma_made : (m : ℕ) {w v w' : Walk} (x : Expr) {a b c d : Expr} → x.node ≡ e.Comma a b → Resolves (expr_kind m) w a c v → Resolves (expr_kind m) v b d w' → Resolves (expr_kind (suc m)) w x (expr_of (e.Comma c d)) w'
comma_made m {w} {v} {w'} x {a} {b} {c} {d} at r0 r1 =
    expr_at m x (expr_of (e.Comma c d)) (ExprNode-F.Comma a b) (ExprNode-F.Comma c d) (ap out-ExprNode (at ∙ sym (e.rolls-Comma a b)) ∙ out-roll-ExprNode (ExprNode-F.Comma a b)) (ap out-ExprNode (sym (e.rolls-Comma c d)) ∙ out-roll-ExprNode (ExprNode-F.Comma c d)) (below m)
    refl (λ d. refl) (λ table frames h. h) (λ i. e.Comma (r0.same i) (r1.same i)) (λ h. (r0.lawful around_script h.0, r1.lawful around_script h.1)) (two r0.part r1.part)

pub binary_made : (m : ℕ) {w v w' : Walk} (x : Expr) {o : BinaryOperator} {a b c d : Expr} → x.node ≡ e.Binary o a b → Resolves (expr_kind m) w a c v → Resolves (expr_kind m) v b d w' → Resolves (expr_kind (suc m)) w x (expr_of (e.Binary o c d)) w'
binary_made m {w} {v} {w'} x {o} {a} {b} {c} {d} at r0 r1 =
    expr_at m x (expr_of (e.Binary o c d)) (ExprNode-F.Binary o a b) (ExprNode-F.Binary o c d) (ap out-ExprNode (at ∙ sym (e.rolls-Binary o a b)) ∙ out-roll-ExprNode (ExprNode-F.Binary o a b)) (ap out-ExprNode (sym (e.rolls-Binary o c d)) ∙ out-roll-ExprNode (ExprNode-F.Binary o c d)) (below m)
    refl (λ d. refl) (λ table frames h. h) (λ i. e.Binary o (r0.same i) (r1.same i)) (λ h. (r0.lawful around_script h.0, r1.lawful around_script h.1)) (two r0.part r1.part)

pub assign_made : (m : ℕ) {w v w' : Walk} (x : Expr) {o : Option BinaryOperator} {a b c d : Expr} → x.node ≡ e.Assign o a b → Resolves (expr_kind m) w a c v → Resolves (expr_kind m) v b d w' → Resolves (expr_kind (suc m)) w x (expr_of (e.Assign o c d)) w'
assign_made m {w} {v} {w'} x {o} {a} {b} {c} {d} at r0 r1 =
    expr_at m x (expr_of (e.Assign o c d)) (ExprNode-F.Assign o a b) (ExprNode-F.Assign o c d) (ap out-ExprNode (at ∙ sym (e.rolls-Assign o a b)) ∙ out-roll-ExprNode (ExprNode-F.Assign o a b)) (ap out-ExprNode (sym (e.rolls-Assign o c d)) ∙ out-roll-ExprNode (ExprNode-F.Assign o c d)) (below m)
    refl (λ d. refl) (λ table frames h. h) (λ i. e.Assign o (r0.same i) (r1.same i)) (λ h. (target_kept m a c r0.same h.0, r0.lawful around_script h.1, r1.lawful around_script h.2)) (two r0.part r1.part)

pub conditional_made : (m : ℕ) {w v u w' : Walk} (x : Expr) {a b c d f g : Expr} → x.node ≡ e.Conditional a b c → Resolves (expr_kind m) w a d v → Resolves (expr_kind m) v b f u → Resolves (expr_kind m) u c g w' → Resolves (expr_kind (suc m)) w x (expr_of (e.Conditional d f g)) w'
conditional_made m {w} {v} {u} {w'} x {a} {b} {c} {d} {f} {g} at r0 r1 r2 =
    expr_at m x (expr_of (e.Conditional d f g)) (ExprNode-F.Conditional a b c) (ExprNode-F.Conditional d f g) (ap out-ExprNode (at ∙ sym (e.rolls-Conditional a b c)) ∙ out-roll-ExprNode (ExprNode-F.Conditional a b c)) (ap out-ExprNode (sym (e.rolls-Conditional d f g)) ∙ out-roll-ExprNode (ExprNode-F.Conditional d f g)) (below m)
    refl (λ d. refl) (λ table frames h. h) (λ i. e.Conditional (r0.same i) (r1.same i) (r2.same i)) (λ h. (r0.lawful around_script h.0, r1.lawful around_script h.1, r2.lawful around_script h.2)) (three r0.part r1.part r2.part)

pub array_made : (m : ℕ) {w w' : Walk} (x : Expr) {ys zs : List Expr} → x.node ≡ e.Array ys → Resolves (list_kind (expr_kind m)) w ys zs w' → Resolves (expr_kind (suc m)) w x (expr_of (e.Array zs)) w'
array_made m {w} {w'} x {ys} {zs} at r0 =
    expr_at m x (expr_of (e.Array zs)) (ExprNode-F.Array ys) (ExprNode-F.Array zs) (ap out-ExprNode (at ∙ sym (e.rolls-Array ys)) ∙ out-roll-ExprNode (ExprNode-F.Array ys)) (ap out-ExprNode (sym (e.rolls-Array zs)) ∙ out-roll-ExprNode (ExprNode-F.Array zs)) (below m)
    refl (λ d. refl) (λ table frames h. h) (ap e.Array r0.same) (λ h. r0.lawful around_script h) r0.part

pub print_made : (m : ℕ) {w w' : Walk} (x : Expr) {ys zs : List Expr} → x.node ≡ e.Print ys → Resolves (list_kind (expr_kind m)) w ys zs w' → Resolves (expr_kind (suc m)) w x (expr_of (e.Print zs)) w'
print_made m {w} {w'} x {ys} {zs} at r0 =
    expr_at m x (expr_of (e.Print zs)) (ExprNode-F.Print ys) (ExprNode-F.Print zs) (ap out-ExprNode (at ∙ sym (e.rolls-Print ys)) ∙ out-roll-ExprNode (ExprNode-F.Print ys)) (ap out-ExprNode (sym (e.rolls-Print zs)) ∙ out-roll-ExprNode (ExprNode-F.Print zs)) (below m)
    refl (λ d. refl) (λ table frames h. h) (ap e.Print r0.same) (λ h. r0.lawful around_script h) r0.part

pub object_made : (m : ℕ) {w w' : Walk} (x : Expr) {ys zs : List Field} → x.node ≡ e.Object ys → Resolves (list_kind (field_kind m)) w ys zs w' → Resolves (expr_kind (suc m)) w x (expr_of (e.Object zs)) w'
object_made m {w} {w'} x {ys} {zs} at r0 =
    expr_at m x (expr_of (e.Object zs)) (ExprNode-F.Object ys) (ExprNode-F.Object zs) (ap out-ExprNode (at ∙ sym (e.rolls-Object ys)) ∙ out-roll-ExprNode (ExprNode-F.Object ys)) (ap out-ExprNode (sym (e.rolls-Object zs)) ∙ out-roll-ExprNode (ExprNode-F.Object zs)) (below m)
    refl (λ d. refl) (λ table frames h. h) (ap e.Object r0.same) (λ h. r0.lawful around_script h) r0.part

pub call_made : (m : ℕ) {w v w' : Walk} (x : Expr) {a b : Expr} {ys zs : List Expr} → x.node ≡ e.Call a ys → Resolves (expr_kind m) w a b v → Resolves (list_kind (expr_kind m)) v ys zs w' → Resolves (expr_kind (suc m)) w x (expr_of (e.Call b zs)) w'
call_made m {w} {v} {w'} x {a} {b} {ys} {zs} at r0 r1 =
    expr_at m x (expr_of (e.Call b zs)) (ExprNode-F.Call a ys) (ExprNode-F.Call b zs) (ap out-ExprNode (at ∙ sym (e.rolls-Call a ys)) ∙ out-roll-ExprNode (ExprNode-F.Call a ys)) (ap out-ExprNode (sym (e.rolls-Call b zs)) ∙ out-roll-ExprNode (ExprNode-F.Call b zs)) (below m)
    refl (λ d. refl) (λ table frames h. h) (λ i. e.Call (r0.same i) (r1.same i)) (λ h. (r0.lawful around_script h.0, r1.lawful around_script h.1)) (two r0.part r1.part)

pub new_made : (m : ℕ) {w v w' : Walk} (x : Expr) {a b : Expr} {ys zs : List Expr} → x.node ≡ e.New a ys → Resolves (expr_kind m) w a b v → Resolves (list_kind (expr_kind m)) v ys zs w' → Resolves (expr_kind (suc m)) w x (expr_of (e.New b zs)) w'
new_made m {w} {v} {w'} x {a} {b} {ys} {zs} at r0 r1 =
    expr_at m x (expr_of (e.New b zs)) (ExprNode-F.New a ys) (ExprNode-F.New b zs) (ap out-ExprNode (at ∙ sym (e.rolls-New a ys)) ∙ out-roll-ExprNode (ExprNode-F.New a ys)) (ap out-ExprNode (sym (e.rolls-New b zs)) ∙ out-roll-ExprNode (ExprNode-F.New b zs)) (below m)
    refl (λ d. refl) (λ table frames h. h) (λ i. e.New (r0.same i) (r1.same i)) (λ h. (r0.lawful around_script h.0, r1.lawful around_script h.1)) (two r0.part r1.part)

pub member_made : (m : ℕ) {w v w' : Walk} (x : Expr) {a b : Expr} {k l : Key} → x.node ≡ e.Member a k → Resolves (expr_kind m) w a b v → Resolves (key_kind m) v k l w' → Resolves (expr_kind (suc m)) w x (expr_of (e.Member b l)) w'
member_made m {w} {v} {w'} x {a} {b} {k} {l} at r0 r1 =
    expr_at m x (expr_of (e.Member b l)) (ExprNode-F.Member a k) (ExprNode-F.Member b l) (ap out-ExprNode (at ∙ sym (e.rolls-Member a k)) ∙ out-roll-ExprNode (ExprNode-F.Member a k)) (ap out-ExprNode (sym (e.rolls-Member b l)) ∙ out-roll-ExprNode (ExprNode-F.Member b l)) (below m)
    refl (λ d. refl) (λ table frames h. h) (λ i. e.Member (r0.same i) (r1.same i)) (λ h. (r0.lawful around_script h.0, r1.lawful around_script h.1)) (two r0.part r1.part)

pub delete_made : (m : ℕ) {w v w' : Walk} (x : Expr) {a b : Expr} {k l : Key} → x.node ≡ e.Delete a k → Resolves (expr_kind m) w a b v → Resolves (key_kind m) v k l w' → Resolves (expr_kind (suc m)) w x (expr_of (e.Delete b l)) w'
delete_made m {w} {v} {w'} x {a} {b} {k} {l} at r0 r1 =
    expr_at m x (expr_of (e.Delete b l)) (ExprNode-F.Delete a k) (ExprNode-F.Delete b l) (ap out-ExprNode (at ∙ sym (e.rolls-Delete a k)) ∙ out-roll-ExprNode (ExprNode-F.Delete a k)) (ap out-ExprNode (sym (e.rolls-Delete b l)) ∙ out-roll-ExprNode (ExprNode-F.Delete b l)) (below m)
    refl (λ d. refl) (λ table frames h. h) (λ i. e.Delete (r0.same i) (r1.same i)) (λ h. (r0.lawful around_script h.0, r1.lawful around_script h.1)) (two r0.part r1.part)

pub literal_made : (m : ℕ) {w : Walk} (x : Expr) {l k : Literal} → x.node ≡ e.Literal l → k ≡ l → Resolves (expr_kind (suc m)) w x (expr_of (e.Literal k)) w
literal_made m {w} x {l} {k} at same =
    subst (λ z. Resolves (expr_kind (suc m)) w x (expr_of (e.Literal z)) w) (sym same)
    (expr_at m x (expr_of (e.Literal l)) (ExprNode-F.Literal l) (ExprNode-F.Literal l) (ap out-ExprNode (at ∙ sym (e.rolls-Literal l)) ∙ out-roll-ExprNode (ExprNode-F.Literal l)) (ap out-ExprNode (sym (e.rolls-Literal l)) ∙ out-roll-ExprNode (ExprNode-F.Literal l)) (below m)
    refl (λ d. refl) (λ table frames h. h) refl (λ h. h) (none w (m + m)))
