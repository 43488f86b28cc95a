-- What the walk does with names, keys, heads of loops, clauses, frames and functions, from what it does with their parts.
use Rattle.std.specs.Prelude.{ℕ, zero, suc, ◌+◌, ◌≤◌, ◌≡◌, refl, min, List, [], ◌∷◌, ◌++◌, Option, Some, None, map, length, slice_get}
use Rattle.std.specs.Option.{option_map}
use Rattle.std.proofs.Common.{arith, ap, sym, ◌∙◌, subst}
use Rattle.js_tree.specs.declared.Named.{Named}
use Rattle.js_tree.specs.declared.ExprNode.{ExprNode, out-ExprNode, out-roll-ExprNode}
use Rattle.js_tree.specs.declared.ExprNode.TheOpen.{ExprNode-F, StmtNode-F, Key-F, ForStart-F, ForTarget-F}
use Rattle.js_tree.specs.declared.ExprNode.TheVariants as e
use Rattle.js_tree.specs.declared.StmtNode.{out-StmtNode, out-roll-StmtNode}
use Rattle.js_tree.specs.declared.StmtNode.TheVariants as s
use Rattle.js_tree.specs.declared.Key.{Key, out-Key, out-roll-Key}
use Rattle.js_tree.specs.declared.Key.TheVariants as key
use Rattle.js_tree.specs.declared.ForStart.{ForStart, out-ForStart, out-roll-ForStart}
use Rattle.js_tree.specs.declared.ForStart.TheVariants as start
use Rattle.js_tree.specs.declared.ForTarget.{ForTarget, out-ForTarget, out-roll-ForTarget}
use Rattle.js_tree.specs.declared.ForTarget.TheVariants as target
use Rattle.js_tree.specs.declared.Field.{Field, out-Field}
use Rattle.js_tree.specs.declared.Variable.{Variable, out-Variable, out-roll-Variable}
use Rattle.js_tree.specs.declared.Case.{Case, out-Case, out-roll-Case}
use Rattle.js_tree.specs.declared.Catch.{Catch, out-Catch, out-roll-Catch}
use Rattle.js_tree.specs.declared.Declaration.{Declaration, out-Declaration, out-roll-Declaration}
use Rattle.js_tree.specs.declared.Script.{Script, out-Script, out-roll-Script}
use Rattle.js_tree.specs.declared.Expr.{Expr}
use Rattle.js_tree.specs.declared.Stmt.{Stmt}
use Rattle.turk_base.specs.Names.{Units}
use Rattle.js_tree.specs.Trees.{StmtLevel, KeyLevel, StartLevel, TargetLevel, expr_of, unbound, field_of, variable_of, case_of, catch_of, declaration_of, script_of, script_numbered, declared_name, declared_parameters, declared_body, number_of, functions_of, statements_of, stmt_level}
use Rattle.js_tree.specs.Calls.{Code, gather, gather_option, variables, variables_to, variables_of, start_variables, target_variables}
use Rattle.js_tree.specs.Table.{Codes, in_key, in_start, in_target, in_case, in_script, all_in, if_there, expr_codes, stmt_codes, body_codes}
use Rattle.js_tree.specs.Lawful.{Around, ExprWithin, StmtWithin, DeclarationWithin, Each, IfThere, Short, LawfulKey, LawfulStart, LawfulTarget, around_script, around_body}
use Rattle.js_tree.specs.Binds.{Frames, FrameNames, frame_of, own_frame, catch_frame, ExprBound, StmtBound, DeclarationBound, BoundName, BoundKey, BoundStart, BoundTarget, BoundFunction, BoundElements}
use Rattle.js_tree.specs.Bare.{expr_bare, stmt_bare, declaration_bare, bare_named, bare_key, bare_start, bare_target, bare_case, bare_catch, bare_variable, bare_stmt}
use Rattle.js_tree.specs.NameCount.{expr_count, stmt_count, declaration_count, count_key, count_start, count_target, distinct}
use Rattle.scope_names.specs.declared.walk.Walk.{Walk}
use Rattle.scope_names.specs.Gathered.{collected}
use Rattle.scope_names.specs.Walks.{Sits, Moves, Part, Kind, Resolves, NameBound, Numbers, Enters, LeavesFrame, list_kind, option_kind}
use Rattle.scope_names.specs.Kinds.{expr_kind, stmt_kind, declaration_kind, body_kind, key_kind, field_kind, variable_kind, start_kind, target_kind, case_kind, catch_kind}
use Rattle.scope_names.proofs.NameLemmas.{length-gathered}
use Rattle.scope_names.proofs.BindLemmas.{binds_of}
use Rattle.scope_names.proofs.WalkParts.{still, none, two, said, recounted}
use Rattle.scope_names.proofs.ExprParts.{expr_at, target_kept}
use Rattle.scope_names.proofs.StmtParts.{var_kept}

-- ---- names

name_part : (w : Walk) {given made : Named} (L : ℕ) → NameBound w.scopes given made → Part w w 0 (λ _. []) L (λ table frames. BoundName frames made)
name_part w {given} {made} L b = record {
  codes = [];
  listed = λ d h. refl;
  moves = still w;
  bound = λ table frames at sits. binds_of w.scopes frames made.name made.own made.binding at b.bound;
}

pub name_made : (m : ℕ) {w : Walk} (x : Expr) {given made : Named} → x.node ≡ e.Name given → NameBound w.scopes given made → Resolves (expr_kind (suc m)) w x (expr_of (e.Name made)) w
name_made m {w} x {given} {made} at b =
    expr_at m x (expr_of (e.Name made)) (ExprNode-F.Name given) (ExprNode-F.Name made) (ap out-ExprNode (at ∙ sym (e.rolls-Name given)) ∙ out-roll-ExprNode (ExprNode-F.Name given)) (ap out-ExprNode (sym (e.rolls-Name made)) ∙ out-roll-ExprNode (ExprNode-F.Name made)) (let less : suc (m + m) ≤ suc m + suc m = omega arith in less)
    refl (λ d. refl) (λ table frames h. h) (ap (λ u. e.Name (unbound u)) b.same) (λ h. subst Short (sym b.same) h) (name_part w (m + m) b)

-- ---- keys

key_at : (m : ℕ) {w w' : Walk} {n : ℕ} {f : ℕ → Codes} {A : Codes → Frames → Type 0} (x y : Key) (N K : KeyLevel) → out-Key x ≡ N → out-Key y ≡ K
    → n ≡ count_key (expr_count m) (stmt_count m) (declaration_count m) N
    → ((d : ℕ) → in_key (expr_codes d) (stmt_codes d) (body_codes d) K ≡ f d)
    → ((table : Codes) (frames : Frames) → A table frames → BoundKey table (ExprBound table m) (StmtBound table m) (DeclarationBound table m) frames K)
    → bare_key (expr_bare m) (stmt_bare m) (declaration_bare m) K ≡ bare_key (expr_bare m) (stmt_bare m) (declaration_bare m) N
    → (LawfulKey (ExprWithin m) (StmtWithin m) (DeclarationWithin m) N → LawfulKey (ExprWithin m) (StmtWithin m) (DeclarationWithin m) K)
    → Part w w' n f (m + m) A → Resolves (key_kind m) w x y w'
key_at m x y N K ex ey count codes bound same lawful p = record {
  part = said (count ∙ ap (count_key (expr_count m) (stmt_count m) (declaration_count m)) (sym ex))
      (λ d. ap (in_key (expr_codes d) (stmt_codes d) (body_codes d)) ey ∙ codes d)
      (λ table frames h. subst (BoundKey table (ExprBound table m) (StmtBound table m) (DeclarationBound table m) frames) (sym ey) (bound table frames h)) p;
  same = ap (bare_key (expr_bare m) (stmt_bare m) (declaration_bare m)) ey ∙ same ∙ ap (bare_key (expr_bare m) (stmt_bare m) (declaration_bare m)) (sym ex);
  lawful = λ c h. subst (LawfulKey (ExprWithin m) (StmtWithin m) (DeclarationWithin m)) (sym ey) (lawful (subst (LawfulKey (ExprWithin m) (StmtWithin m) (DeclarationWithin m)) ex h));
}

pub fixed_made : (m : ℕ) {w : Walk} (x : Key) {u v : Units} → x ≡ key.Fixed u → v ≡ u → Resolves (key_kind m) w x (key.Fixed v) w
fixed_made m {w} x {u} {v} at same =
    key_at m x (key.Fixed v) (Key-F.Fixed u) (Key-F.Fixed v) (ap out-Key (at ∙ sym (key.rolls-Fixed u)) ∙ out-roll-Key (Key-F.Fixed u)) (ap out-Key (sym (key.rolls-Fixed v)) ∙ out-roll-Key (Key-F.Fixed v))
    refl (λ d. refl) (λ table frames h. h) (ap key.Fixed same) (λ h. subst Short (sym same) h) (none w (m + m))

pub computed_made : (m : ℕ) {w w' : Walk} (x : Key) {a b : Expr} → x ≡ key.Computed a → Resolves (expr_kind m) w a b w' → Resolves (key_kind m) w x (key.Computed b) w'
computed_made m x {a} {b} at r =
    key_at m x (key.Computed b) (Key-F.Computed a) (Key-F.Computed b) (ap out-Key (at ∙ sym (key.rolls-Computed a)) ∙ out-roll-Key (Key-F.Computed a)) (ap out-Key (sym (key.rolls-Computed b)) ∙ out-roll-Key (Key-F.Computed b))
    refl (λ d. refl) (λ table frames h. h) (ap key.Computed r.same) (λ h. r.lawful around_script h) r.part

pub field_made : (m : ℕ) {w w' : Walk} (x : Field) {u : Units} {b : Expr} → u ≡ (out-Field x).key → Resolves (expr_kind m) w (out-Field x).value b w' → Resolves (field_kind m) w x (field_of u b) w'
field_made m x {u} {b} same r = record {
  part = said refl (λ d. refl) (λ table frames h. h) r.part;
  same = λ i. field_of (same i) (r.same i);
  lawful = λ c h. (subst Short (sym same) h.0, r.lawful c h.1);
}

zero_first : (n : ℕ) → 0 + n ≡ n
zero_first n = omega arith

pub variable_made : (m : ℕ) {w w' : Walk} (x : Variable) {made : Named} {v : Option Expr} → NameBound w.scopes (out-Variable x).named made → Resolves (option_kind (expr_kind m)) w (out-Variable x).value v w' → Resolves (variable_kind m) w x (variable_of made v) w'
variable_made m {w} {w'} x {made} {v} b r =
    let opened = out-roll-Variable (record { named = made; value = v }) in
    let p = two (name_part w (m + m) b) r.part in
    record {
      part = said (zero_first _) (λ d. ap (λ y. if_there (expr_codes d) y.value) opened)
          (λ table frames h. subst (λ y. BoundName frames y.named × IfThere (ExprBound table m frames) y.value) (sym opened) h) p;
      same = ap (λ y. variable_of (bare_named y.named) (option_map (expr_bare m) y.value)) opened ∙ (λ i. variable_of (unbound (b.same i)) (r.same i));
      lawful = λ c h. subst (λ y. Short y.named.name × IfThere (ExprWithin m) y.value) (sym opened) (subst Short (sym b.same) h.0, r.lawful c h.1);
    }

-- ---- heads of loops

start_at : (m : ℕ) {w w' : Walk} {n : ℕ} {f : ℕ → Codes} {A : Codes → Frames → Type 0} (x y : ForStart) (N K : StartLevel) → out-ForStart x ≡ N → out-ForStart y ≡ K
    → n ≡ count_start (expr_count m) (stmt_count m) (declaration_count m) N
    → ((d : ℕ) → in_start (expr_codes d) (stmt_codes d) (body_codes d) K ≡ f d)
    → ((table : Codes) (frames : Frames) → A table frames → BoundStart table (ExprBound table m) (StmtBound table m) (DeclarationBound table m) frames K)
    → bare_start (expr_bare m) (stmt_bare m) (declaration_bare m) K ≡ bare_start (expr_bare m) (stmt_bare m) (declaration_bare m) N
    → ((c : Around) → LawfulStart (ExprWithin m) (StmtWithin m) (DeclarationWithin m) N c → LawfulStart (ExprWithin m) (StmtWithin m) (DeclarationWithin m) K c)
    → Part w w' n f (m + m) A → Resolves (start_kind m) w x y w'
start_at m x y N K ex ey count codes bound same lawful p = record {
  part = said (count ∙ ap (count_start (expr_count m) (stmt_count m) (declaration_count m)) (sym ex))
      (λ d. ap (in_start (expr_codes d) (stmt_codes d) (body_codes d)) ey ∙ codes d)
      (λ table frames h. subst (BoundStart table (ExprBound table m) (StmtBound table m) (DeclarationBound table m) frames) (sym ey) (bound table frames h)) p;
  same = ap (bare_start (expr_bare m) (stmt_bare m) (declaration_bare m)) ey ∙ same ∙ ap (bare_start (expr_bare m) (stmt_bare m) (declaration_bare m)) (sym ex);
  lawful = λ c h. subst (λ y. LawfulStart (ExprWithin m) (StmtWithin m) (DeclarationWithin m) y c) (sym ey) (lawful c (subst (λ y. LawfulStart (ExprWithin m) (StmtWithin m) (DeclarationWithin m) y c) ex h));
}

pub no_start_made : (m : ℕ) {w : Walk} (x : ForStart) → x ≡ start.NoStart → Resolves (start_kind m) w x start.NoStart w
no_start_made m {w} x at =
    start_at m x start.NoStart ForStart-F.NoStart ForStart-F.NoStart (ap out-ForStart (at ∙ sym start.rolls-NoStart) ∙ out-roll-ForStart ForStart-F.NoStart) (ap out-ForStart (sym start.rolls-NoStart) ∙ out-roll-ForStart ForStart-F.NoStart)
    refl (λ d. refl) (λ table frames h. h) refl (λ c h. h) (none w (m + m))

pub value_start_made : (m : ℕ) {w w' : Walk} (x : ForStart) {a b : Expr} → x ≡ start.ValueStart a → Resolves (expr_kind m) w a b w' → Resolves (start_kind m) w x (start.ValueStart b) w'
value_start_made m x {a} {b} at r =
    start_at m x (start.ValueStart b) (ForStart-F.ValueStart a) (ForStart-F.ValueStart b) (ap out-ForStart (at ∙ sym (start.rolls-ValueStart a)) ∙ out-roll-ForStart (ForStart-F.ValueStart a)) (ap out-ForStart (sym (start.rolls-ValueStart b)) ∙ out-roll-ForStart (ForStart-F.ValueStart b))
    refl (λ d. refl) (λ table frames h. h) (ap start.ValueStart r.same) (λ c h. r.lawful c h) r.part

pub var_start_made : (m : ℕ) {w w' : Walk} (x : ForStart) {a b : Stmt} → x ≡ start.VarStart a → Resolves (stmt_kind m) w a b w' → Resolves (start_kind m) w x (start.VarStart b) w'
var_start_made m x {a} {b} at r =
    start_at m x (start.VarStart b) (ForStart-F.VarStart a) (ForStart-F.VarStart b) (ap out-ForStart (at ∙ sym (start.rolls-VarStart a)) ∙ out-roll-ForStart (ForStart-F.VarStart a)) (ap out-ForStart (sym (start.rolls-VarStart b)) ∙ out-roll-ForStart (ForStart-F.VarStart b))
    refl (λ d. refl) (λ table frames h. h) (ap start.VarStart r.same) (λ c h. (var_kept m a b r.same h.0, r.lawful c h.1)) r.part

target_at : (m : ℕ) {w w' : Walk} {n : ℕ} {f : ℕ → Codes} {A : Codes → Frames → Type 0} (x y : ForTarget) (N K : TargetLevel) → out-ForTarget x ≡ N → out-ForTarget y ≡ K
    → n ≡ count_target (expr_count m) (stmt_count m) (declaration_count m) N
    → ((d : ℕ) → in_target (expr_codes d) (stmt_codes d) (body_codes d) K ≡ f d)
    → ((table : Codes) (frames : Frames) → A table frames → BoundTarget table (ExprBound table m) (StmtBound table m) (DeclarationBound table m) frames K)
    → bare_target (expr_bare m) (stmt_bare m) (declaration_bare m) K ≡ bare_target (expr_bare m) (stmt_bare m) (declaration_bare m) N
    → (LawfulTarget (ExprWithin m) (StmtWithin m) (DeclarationWithin m) N → LawfulTarget (ExprWithin m) (StmtWithin m) (DeclarationWithin m) K)
    → Part w w' n f (m + m) A → Resolves (target_kind m) w x y w'
target_at m x y N K ex ey count codes bound same lawful p = record {
  part = said (count ∙ ap (count_target (expr_count m) (stmt_count m) (declaration_count m)) (sym ex))
      (λ d. ap (in_target (expr_codes d) (stmt_codes d) (body_codes d)) ey ∙ codes d)
      (λ table frames h. subst (BoundTarget table (ExprBound table m) (StmtBound table m) (DeclarationBound table m) frames) (sym ey) (bound table frames h)) p;
  same = ap (bare_target (expr_bare m) (stmt_bare m) (declaration_bare m)) ey ∙ same ∙ ap (bare_target (expr_bare m) (stmt_bare m) (declaration_bare m)) (sym ex);
  lawful = λ c h. subst (LawfulTarget (ExprWithin m) (StmtWithin m) (DeclarationWithin m)) (sym ey) (lawful (subst (LawfulTarget (ExprWithin m) (StmtWithin m) (DeclarationWithin m)) ex h));
}

pub target_each_made : (m : ℕ) {w w' : Walk} (x : ForTarget) {a b : Expr} → x ≡ target.TargetEach a → Resolves (expr_kind m) w a b w' → Resolves (target_kind m) w x (target.TargetEach b) w'
target_each_made m x {a} {b} at r =
    target_at m x (target.TargetEach b) (ForTarget-F.TargetEach a) (ForTarget-F.TargetEach b) (ap out-ForTarget (at ∙ sym (target.rolls-TargetEach a)) ∙ out-roll-ForTarget (ForTarget-F.TargetEach a)) (ap out-ForTarget (sym (target.rolls-TargetEach b)) ∙ out-roll-ForTarget (ForTarget-F.TargetEach b))
    refl (λ d. refl) (λ table frames h. h) (ap target.TargetEach r.same) (λ h. (target_kept m a b r.same h.0, r.lawful around_script h.1)) r.part

pub var_each_made : (m : ℕ) {w : Walk} (x : ForTarget) {given made : Named} → x ≡ target.VarEach given → NameBound w.scopes given made → Resolves (target_kind m) w x (target.VarEach made) w
var_each_made m {w} x {given} {made} at b =
    target_at m x (target.VarEach made) (ForTarget-F.VarEach given) (ForTarget-F.VarEach made) (ap out-ForTarget (at ∙ sym (target.rolls-VarEach given)) ∙ out-roll-ForTarget (ForTarget-F.VarEach given)) (ap out-ForTarget (sym (target.rolls-VarEach made)) ∙ out-roll-ForTarget (ForTarget-F.VarEach made))
    refl (λ d. refl) (λ table frames h. h) (ap (λ u. target.VarEach (unbound u)) b.same) (λ h. subst Short (sym b.same) h) (name_part w (m + m) b)

-- ---- clauses

pub case_made : (m : ℕ) {w v w' : Walk} (x : Case) {a : Option Expr} {zs : List Stmt} → Resolves (option_kind (expr_kind m)) w (out-Case x).test a v → Resolves (list_kind (stmt_kind m)) v (out-Case x).statements zs w' → Resolves (case_kind m) w x (case_of a zs) w'
case_made m x {a} {zs} r q =
    let opened = out-roll-Case (record { test = a; statements = zs }) in
    record {
      part = said refl (λ d. ap (λ y. if_there (expr_codes d) y.test ++ all_in (stmt_codes d) y.statements) opened)
          (λ table frames h. subst (λ y. IfThere (ExprBound table m frames) y.test × Each (StmtBound table m frames) y.statements) (sym opened) h) (two r.part q.part);
      same = ap (λ y. case_of (option_map (expr_bare m) y.test) (map (stmt_bare m) y.statements)) opened ∙ (λ i. case_of (r.same i) (q.same i));
      lawful = λ c h. subst (λ y. IfThere (ExprWithin m) y.test × Each (StmtWithin m c) y.statements) (sym opened) (r.lawful c h.0, q.lawful c h.1);
    }
