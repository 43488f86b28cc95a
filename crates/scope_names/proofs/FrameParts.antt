-- What the walk does with frames and functions.
use Rattle.std.specs.Prelude.{false, ℕ, zero, suc, ◌+◌, ◌≤◌, ◌≡◌, refl, min, List, [], ◌∷◌, ◌++◌, Option, Some, None, map, length, slice_get}
use Rattle.std.specs.Option.{option_map}
use Rattle.std.proofs.Common.{arith, ap, sym, ◌∙◌, subst}
use Rattle.js_tree.specs.declared.ExprNode.{ExprNode, out-ExprNode, out-roll-ExprNode}
use Rattle.js_tree.specs.declared.ExprNode.TheOpen.{ExprNode-F, StmtNode-F, ForStart-F, ForTarget-F}
use Rattle.js_tree.specs.declared.ExprNode.TheVariants as e
use Rattle.js_tree.specs.declared.StmtNode.{out-StmtNode, out-roll-StmtNode}
use Rattle.js_tree.specs.declared.StmtNode.TheVariants as s
use Rattle.js_tree.specs.declared.ForStart.{ForStart, out-ForStart, out-roll-ForStart}
use Rattle.js_tree.specs.declared.ForStart.TheVariants as start
use Rattle.js_tree.specs.declared.ForTarget.{ForTarget, out-ForTarget, out-roll-ForTarget}
use Rattle.js_tree.specs.declared.ForTarget.TheVariants as target
use Rattle.js_tree.specs.declared.Variable.{Variable, out-Variable, out-roll-Variable}
use Rattle.js_tree.specs.declared.Case.{Case, out-Case, out-roll-Case}
use Rattle.js_tree.specs.declared.Catch.{Catch, out-Catch, out-roll-Catch}
use Rattle.js_tree.specs.declared.Declaration.{Declaration, out-Declaration, out-roll-Declaration}
use Rattle.js_tree.specs.declared.Script.{Script, out-Script, out-roll-Script}
use Rattle.js_tree.specs.declared.Expr.{Expr}
use Rattle.js_tree.specs.declared.Stmt.{Stmt}
use Rattle.turk_base.specs.Names.{Units}
use Rattle.js_tree.specs.Trees.{StmtLevel, StartLevel, TargetLevel, expr_of, unbound, catch_of, declaration_of, script_of, script_numbered, declared_name, declared_parameters, declared_body, number_of, functions_of, statements_of, stmt_level}
use Rattle.js_tree.specs.Calls.{Code, gather, gather_option, variables, variables_to, variables_of, start_variables, target_variables}
use Rattle.js_tree.specs.Table.{Codes, in_script, all_in, if_there, expr_codes, stmt_codes, body_codes}
use Rattle.js_tree.specs.Lawful.{Around, ExprWithin, StmtWithin, DeclarationWithin, Each, IfThere, Short, IsBlock, around_script, around_body}
use Rattle.js_tree.specs.Binds.{Frames, FrameNames, frame_of, own_frame, catch_frame, ExprBound, StmtBound, DeclarationBound}
use Rattle.js_tree.specs.Bare.{expr_bare, stmt_bare, declaration_bare, bare_start, bare_target, bare_case, bare_catch, bare_variable, bare_stmt}
use Rattle.js_tree.specs.NameCount.{expr_count, stmt_count, declaration_count, distinct}
use Rattle.scope_names.specs.declared.walk.Walk.{Walk}
use Rattle.scope_names.specs.Gathered.{collected}
use Rattle.scope_names.specs.Walks.{Sits, Moves, Part, Kind, Resolves, Numbers, Enters, LeavesFrame, list_kind, option_kind}
use Rattle.scope_names.specs.Kinds.{expr_kind, stmt_kind, declaration_kind, body_kind, catch_kind}
use Rattle.scope_names.proofs.NameLemmas.{length-gathered}
use Rattle.scope_names.proofs.WalkParts.{two, said, recounted}
use Rattle.scope_names.proofs.ExprParts.{expr_at}
use Rattle.scope_names.proofs.StmtParts.{block_kept}

-- ---- what bindings don't touch: the names of a frame

name_bare : (m : ℕ) (d : Declaration) → declared_name (declaration_bare m d) ≡ declared_name d
unfolding declaration_bare
name_bare zero d = refl
name_bare (suc m) d = ap (λ r. r.name) (out-roll-Declaration _)

names_bare : (m : ℕ) (ds : List Declaration) → map declared_name (map (declaration_bare m) ds) ≡ map declared_name ds
names_bare m [] = refl
names_bare m (d ∷ ds) = λ i. name_bare m d i ∷ names_bare m ds i

names_kept : (m : ℕ) (ds fs : List Declaration) → map (declaration_bare m) fs ≡ map (declaration_bare m) ds → map declared_name fs ≡ map declared_name ds
names_kept m ds fs e = sym (names_bare m fs) ∙ ap (map declared_name) e ∙ names_bare m ds

gather_map : {A : Type 0} (f : A → List Units) (g : A → A) → ((x : A) → f (g x) ≡ f x) → (xs : List A) → gather f (map g xs) ≡ gather f xs
gather_map f g h [] = refl
gather_map f g h (x ∷ xs) = λ i. h x i ++ gather_map f g h xs i

gather_option_map : {A : Type 0} (f : A → List Units) (g : A → A) → ((x : A) → f (g x) ≡ f x) → (o : Option A) → gather_option f (option_map g o) ≡ gather_option f o
gather_option_map f g h (Some x) = h x
gather_option_map f g h None = refl

module _ (V : Stmt → List Units) (E : Expr → Expr) (S : Stmt → Stmt) (D : Declaration → Declaration) (h : (x : Stmt) → V (S x) ≡ V x) where
  var_names_bare : (xs : List Variable) → map (λ x. (out-Variable x).named.name) (map (bare_variable E S D) xs) ≡ map (λ x. (out-Variable x).named.name) xs
  var_names_bare [] = refl
  var_names_bare (x ∷ xs) =
      λ i. (out-roll-Variable (record { named = unbound (out-Variable x).named.name; value = option_map E (out-Variable x).value }) i).named.name ∷ var_names_bare xs i

  start_bare : (level : StartLevel) → start_variables V (out-ForStart (bare_start E S D level)) ≡ start_variables V level
  start_bare ForStart-F.NoStart = ap (start_variables V) (ap out-ForStart (sym start.rolls-NoStart) ∙ out-roll-ForStart ForStart-F.NoStart)
  start_bare (ForStart-F.ValueStart x) = ap (start_variables V) (ap out-ForStart (sym (start.rolls-ValueStart (E x))) ∙ out-roll-ForStart (ForStart-F.ValueStart (E x)))
  start_bare (ForStart-F.VarStart x) = ap (start_variables V) (ap out-ForStart (sym (start.rolls-VarStart (S x))) ∙ out-roll-ForStart (ForStart-F.VarStart (S x))) ∙ h x

  target_bare : (level : TargetLevel) → target_variables V (out-ForTarget (bare_target E S D level)) ≡ target_variables V level
  target_bare (ForTarget-F.TargetEach x) = ap (target_variables V) (ap out-ForTarget (sym (target.rolls-TargetEach (E x))) ∙ out-roll-ForTarget (ForTarget-F.TargetEach (E x)))
  target_bare (ForTarget-F.VarEach x) = ap (target_variables V) (ap out-ForTarget (sym (target.rolls-VarEach (unbound x.name))) ∙ out-roll-ForTarget (ForTarget-F.VarEach (unbound x.name)))

  case_bare : (c : Case) → gather V (out-Case (bare_case E S D c)).statements ≡ gather V (out-Case c).statements
  case_bare c = ap (λ r. gather V r.statements) (out-roll-Case (record { test = option_map E (out-Case c).test; statements = map S (out-Case c).statements })) ∙ gather_map V S h (out-Case c).statements

  caught_bare : (c : Catch) → V (out-Catch (bare_catch E S D c)).body ≡ V (out-Catch c).body
  caught_bare c = ap (λ r. V r.body) (out-roll-Catch (record { name = (out-Catch c).name; body = S (out-Catch c).body })) ∙ h (out-Catch c).body

  node_bare : (level : StmtLevel) → variables_of V (out-StmtNode (bare_stmt E S D level)) ≡ variables_of V level
  node_bare (StmtNode-F.Block xs) = ap (variables_of V) (ap out-StmtNode (sym (s.rolls-Block (map S xs))) ∙ out-roll-StmtNode (StmtNode-F.Block (map S xs))) ∙ gather_map V S h xs
  node_bare (StmtNode-F.Var xs) = ap (variables_of V) (ap out-StmtNode (sym (s.rolls-Var (map (bare_variable E S D) xs))) ∙ out-roll-StmtNode (StmtNode-F.Var (map (bare_variable E S D) xs))) ∙ var_names_bare xs
  node_bare StmtNode-F.Empty = ap (variables_of V) (ap out-StmtNode (sym s.rolls-Empty) ∙ out-roll-StmtNode StmtNode-F.Empty)
  node_bare (StmtNode-F.Expression x) = ap (variables_of V) (ap out-StmtNode (sym (s.rolls-Expression (E x))) ∙ out-roll-StmtNode (StmtNode-F.Expression (E x)))
  node_bare (StmtNode-F.If x a b) =
      ap (variables_of V) (ap out-StmtNode (sym (s.rolls-If (E x) (S a) (option_map S b))) ∙ out-roll-StmtNode (StmtNode-F.If (E x) (S a) (option_map S b))) ∙ (λ i. h a i ++ gather_option_map V S h b i)
  node_bare (StmtNode-F.DoWhile a x) = ap (variables_of V) (ap out-StmtNode (sym (s.rolls-DoWhile (S a) (E x))) ∙ out-roll-StmtNode (StmtNode-F.DoWhile (S a) (E x))) ∙ h a
  node_bare (StmtNode-F.While x a) = ap (variables_of V) (ap out-StmtNode (sym (s.rolls-While (E x) (S a))) ∙ out-roll-StmtNode (StmtNode-F.While (E x) (S a))) ∙ h a
  node_bare (StmtNode-F.For b t u a) =
      ap (variables_of V) (ap out-StmtNode (sym (s.rolls-For (bare_start E S D (out-ForStart b)) (option_map E t) (option_map E u) (S a))) ∙ out-roll-StmtNode (StmtNode-F.For (bare_start E S D (out-ForStart b)) (option_map E t) (option_map E u) (S a)))
      ∙ (λ i. start_bare (out-ForStart b) i ++ h a i)
  node_bare (StmtNode-F.ForIn t x a) =
      ap (variables_of V) (ap out-StmtNode (sym (s.rolls-ForIn (bare_target E S D (out-ForTarget t)) (E x) (S a))) ∙ out-roll-StmtNode (StmtNode-F.ForIn (bare_target E S D (out-ForTarget t)) (E x) (S a)))
      ∙ (λ i. target_bare (out-ForTarget t) i ++ h a i)
  node_bare StmtNode-F.Continue = ap (variables_of V) (ap out-StmtNode (sym s.rolls-Continue) ∙ out-roll-StmtNode StmtNode-F.Continue)
  node_bare StmtNode-F.Break = ap (variables_of V) (ap out-StmtNode (sym s.rolls-Break) ∙ out-roll-StmtNode StmtNode-F.Break)
  node_bare (StmtNode-F.Return x) = ap (variables_of V) (ap out-StmtNode (sym (s.rolls-Return (option_map E x))) ∙ out-roll-StmtNode (StmtNode-F.Return (option_map E x)))
  node_bare (StmtNode-F.Switch x cs) =
      ap (variables_of V) (ap out-StmtNode (sym (s.rolls-Switch (E x) (map (bare_case E S D) cs))) ∙ out-roll-StmtNode (StmtNode-F.Switch (E x) (map (bare_case E S D) cs)))
      ∙ gather_map (λ c. gather V (out-Case c).statements) (bare_case E S D) case_bare cs
  node_bare (StmtNode-F.Throw x) = ap (variables_of V) (ap out-StmtNode (sym (s.rolls-Throw (E x))) ∙ out-roll-StmtNode (StmtNode-F.Throw (E x)))
  node_bare (StmtNode-F.Try a c f) =
      ap (variables_of V) (ap out-StmtNode (sym (s.rolls-Try (S a) (option_map (bare_catch E S D) c) (option_map S f))) ∙ out-roll-StmtNode (StmtNode-F.Try (S a) (option_map (bare_catch E S D) c) (option_map S f)))
      ∙ (λ i. (h a i ++ gather_option_map (λ x. V (out-Catch x).body) (bare_catch E S D) caught_bare c i) ++ gather_option_map V S h f i)

variables_bare : (k m : ℕ) (x : Stmt) → variables_to k (stmt_bare m x) ≡ variables_to k x
unfolding stmt_bare
variables_bare zero m x = refl
variables_bare (suc k) zero x = refl
variables_bare (suc k) (suc m) x = node_bare (variables_to k) (expr_bare m) (stmt_bare m) (declaration_bare m) (variables_bare k m) (stmt_level x)

variables_kept : (k m : ℕ) (ss ts : List Stmt) → map (stmt_bare m) ts ≡ map (stmt_bare m) ss → gather (variables_to k) ts ≡ gather (variables_to k) ss
variables_kept k m ss ts e =
    sym (gather_map (variables_to k) (stmt_bare m) (variables_bare k m) ts) ∙ ap (gather (variables_to k)) e ∙ gather_map (variables_to k) (stmt_bare m) (variables_bare k m) ss

pub frame_kept : (m : ℕ) (ps : List Units) (number : ℕ) (b : Script) (fs : List Declaration) (ss : List Stmt) → map (declaration_bare m) fs ≡ map (declaration_bare m) (functions_of b) → map (stmt_bare m) ss ≡ map (stmt_bare m) (statements_of b)
    → frame_of ps (script_numbered number fs ss) ≡ frame_of ps b
frame_kept m ps number b fs ss e f =
    ap (λ r. record { names = ps ++ (map declared_name r.functions ++ variables r.statements); own = false }) (out-roll-Script (record { number = number; functions = fs; statements = ss }))
    ∙ (λ i. record { names = ps ++ (names_kept m (functions_of b) fs e i ++ variables_kept 200 m (statements_of b) ss f i); own = false })

-- ---- frames

counted_in : (a b c d k n : ℕ) → min b 65536 ≡ min (a + k) 65536 → min c 65536 ≡ min (b + n) 65536 → d ≡ c → min d 65536 ≡ min (a + (k + n)) 65536
counted_in a b c d k n e f g = omega arith

-- what is walked within a frame
pub framed : {a b c d : Walk} {frame raw : FrameNames} {n L : ℕ} {f : ℕ → Codes} {A : Codes → Frames → Type 0} → Enters a frame b → frame ≡ collected raw → Part b c n f L A → LeavesFrame c d
    → Part a d (length frame.names + n) f L (λ table frames. A table (raw ∷ frames))
framed {a} {b} {c} {d} {frame} {raw} {n} enter same p leave = record {
  codes = p.codes;
  listed = p.listed;
  moves = record {
    scopes = leave.scopes frame a.scopes (p.moves.scopes ∙ enter.scopes);
    counted = counted_in a.names b.names c.names d.names (length frame.names) n enter.counted p.moves.counted leave.counted;
    next = leave.next ∙ p.moves.next ∙ ap (λ k. k + length p.codes) enter.next;
    numbered = λ k code at. p.moves.numbered k code at ∙ ap (λ j. j + k) enter.next;
  };
  bound = λ table frames at sits. p.bound table (raw ∷ frames) (enter.scopes ∙ (λ i. same i ∷ at i)) (subst (λ k. Sits table k p.codes) (sym enter.next) sits);
}

pub catch_made : (m : ℕ) {w v u w' : Walk} (x : Catch) {name : Units} {b : Stmt} → name ≡ (out-Catch x).name → Enters w (catch_frame name) v → Resolves (stmt_kind m) v (out-Catch x).body b u → LeavesFrame u w' → Resolves (catch_kind m) w x (catch_of name b) w'
catch_made m x {name} {b} e enter r leave =
    let opened = out-roll-Catch (record { name = name; body = b }) in
    record {
      part = said refl (λ d. ap (λ y. stmt_codes d y.body) opened)
          (λ table frames h. subst (λ y. StmtBound table m (catch_frame y.name ∷ frames) y.body) (sym opened) h) (framed {raw = catch_frame name} enter refl r.part leave);
      same = ap (λ y. catch_of y.name (stmt_bare m y.body)) opened ∙ (λ i. catch_of (e i) (r.same i));
      lawful = λ c h. subst (λ y. Short y.name × IsBlock y.body × StmtWithin m c y.body) (sym opened) (subst Short (sym e) h.0, block_kept m (out-Catch x).body b r.same h.1, r.lawful c h.2);
    }

-- ---- functions

counted_body : (a b d k l n : ℕ) → b ≡ a → k ≡ l → min d 65536 ≡ min (b + (k + n)) 65536 → min d 65536 ≡ min (a + (l + n)) 65536
counted_body a b d k l n e f g = omega arith

moved_body : (w v w' : Walk) (code : Code) (codes : Codes) (number k l n : ℕ) → Numbers w number v → k ≡ l → number_of code.body ≡ w.next → Moves v w' codes (k + n) → Moves w w' (code ∷ codes) (l + n)
moved_body w v w' code codes number k l n numbers same first moves = record {
  scopes = moves.scopes ∙ numbers.scopes;
  counted = counted_body w.names v.names w'.names k l n numbers.counted same moves.counted;
  next = omega (arith, moves.next, numbers.next);
  numbered = numbered;
}
  where
    inside : (c d : Code) → Some c ≡ Some d → c ≡ d
    inside c d e = cc

    numbered : (j : ℕ) (c : Code) → slice_get (code ∷ codes) j ≡ Some c → number_of c.body ≡ w.next + j
    numbered zero c at = (let same_place : w.next ≡ w.next + 0 = omega arith in ap (λ d. number_of d.body) (sym (inside code c at)) ∙ first ∙ same_place)
    numbered (suc j) c at = (let next : v.next + j ≡ w.next + suc j = omega (arith, numbers.next) in moves.numbered j c at ∙ next)

listed_body : (m : ℕ) (ps : List Units) (made : Script) (code : Code) (codes : Codes) → code ≡ record { parameters = ps; body = made }
    → ((d : ℕ) → m + m ≤ d → in_script (expr_codes d) (stmt_codes d) (body_codes d) made ≡ codes) → (d : ℕ) → suc (m + m) ≤ d → body_codes d ps made ≡ code ∷ codes
unfolding body_codes
listed_body m ps made code codes e listed zero h = absurd (omega arith)
listed_body m ps made code codes e listed (suc d) h = λ i. sym e i ∷ listed d (omega arith) i

-- the next number, and then a frame with functions and statements
pub body_made : (m : ℕ) {w v u t z w' : Walk} (ps : List Units) (b : Script) {number : ℕ} {frame : FrameNames} {fs : List Declaration} {ss : List Stmt} → Numbers w number v → Enters v frame u → frame ≡ collected (frame_of ps b)
    → Resolves (list_kind (declaration_kind m)) u (functions_of b) fs t → Resolves (list_kind (stmt_kind m)) t (statements_of b) ss z → LeavesFrame z w' → Resolves (body_kind m ps) w b (script_numbered number fs ss) w'
unfolding body_codes
body_made m {w} {v} {u} {t} {z} {w'} ps b {number} {frame} {fs} {ss} numbers enter same r q leave =
    let made : Script = script_numbered number fs ss in
    let opened = out-roll-Script (record { number = number; functions = fs; statements = ss }) in
    let p = framed {raw = frame_of ps b} enter same (two r.part q.part) leave in
    let code : Code = record { parameters = ps; body = made } in
    let first : number_of made ≡ w.next = ap (λ y. y.number) opened ∙ numbers.taken in
    let frames_same : frame_of ps made ≡ frame_of ps b = frame_kept m ps number b fs ss r.same q.same in
    record {
      part = record {
        codes = code ∷ p.codes;
        listed = listed_body m ps made code p.codes refl (λ d h. ap (λ y. all_in (λ x. body_codes d (declared_parameters x) (declared_body x)) y.functions ++ all_in (stmt_codes d) y.statements) opened ∙ p.listed d h);
        moves = moved_body w v w' code p.codes number (length frame.names) (distinct (frame_of ps b).names) _ numbers (ap (λ g. length g.names) same ∙ length-gathered (frame_of ps b).names) first p.moves;
        bound = λ table frames at sits. (
          (let here : w.next + 0 ≡ number_of made = omega arith in subst (λ k. slice_get table k ≡ Some code) here (sits 0 code refl)),
          (let inner : Sits table v.next p.codes = (λ k c e. (let next : w.next + suc k ≡ v.next + k = omega (arith, numbers.next) in subst (λ j. slice_get table j ≡ Some c) next (sits (suc k) c e))) in
              let got = p.bound table frames (numbers.scopes ∙ at) inner in
              subst (λ g. Each (DeclarationBound table m (g ∷ frames)) (functions_of made) × Each (StmtBound table m (g ∷ frames)) (statements_of made)) (sym frames_same)
              (subst (λ y. Each (DeclarationBound table m (frame_of ps b ∷ frames)) y.functions × Each (StmtBound table m (frame_of ps b ∷ frames)) y.statements) (sym opened) got)),
        );
      };
      same = ap (λ y. script_of (map (declaration_bare m) y.functions) (map (stmt_bare m) y.statements)) opened ∙ (λ i. script_of (r.same i) (q.same i));
      lawful = λ c h. subst (λ y. Each (DeclarationWithin m) y.functions × Each (StmtWithin m around_body) y.statements) (sym opened) (r.lawful around_body h.0, q.lawful around_body h.1);
    }

zero_more : (n : ℕ) → n ≡ 0 + n
zero_more n = omega arith

pub function_made : (m : ℕ) {w w' : Walk} (x : Expr) {ps qs : List Units} {b made : Script} → x.node ≡ e.Function None ps b → qs ≡ ps → Resolves (body_kind m ps) w b made w' → Resolves (expr_kind (suc m)) w x (expr_of (e.Function None qs made)) w'
function_made m {w} {w'} x {ps} {qs} {b} {made} at same r =
    subst (λ q. Resolves (expr_kind (suc m)) w x (expr_of (e.Function None q made)) w') (sym same)
    (expr_at m x (expr_of (e.Function None ps made)) (ExprNode-F.Function None ps b) (ExprNode-F.Function None ps made)
    (ap out-ExprNode (at ∙ sym (e.rolls-Function None ps b)) ∙ out-roll-ExprNode (ExprNode-F.Function None ps b)) (ap out-ExprNode (sym (e.rolls-Function None ps made)) ∙ out-roll-ExprNode (ExprNode-F.Function None ps made))
    (let less : suc (suc (m + m)) ≤ suc m + suc m = omega arith in less)
    (zero_more _) (λ d. refl) (λ table frames h. h) (ap (e.Function None ps) r.same) (λ h. (h.0, h.1, r.lawful around_script h.2)) r.part)

pub named_function_made : (m : ℕ) {w v u w' : Walk} (x : Expr) {name own : Units} {ps qs : List Units} {b made : Script} → x.node ≡ e.Function (Some name) ps b → own ≡ name → qs ≡ ps → Enters w (own_frame own) v → Resolves (body_kind m ps) v b made u → LeavesFrame u w'
    → Resolves (expr_kind (suc m)) w x (expr_of (e.Function (Some own) qs made)) w'
named_function_made m {w} {v} {u} {w'} x {name} {own} {ps} {qs} {b} {made} at called same enter r leave =
    subst (λ q. Resolves (expr_kind (suc m)) w x (expr_of (e.Function (Some own) q made)) w') (sym same)
    (expr_at m x (expr_of (e.Function (Some own) ps made)) (ExprNode-F.Function (Some name) ps b) (ExprNode-F.Function (Some own) ps made)
    (ap out-ExprNode (at ∙ sym (e.rolls-Function (Some name) ps b)) ∙ out-roll-ExprNode (ExprNode-F.Function (Some name) ps b)) (ap out-ExprNode (sym (e.rolls-Function (Some own) ps made)) ∙ out-roll-ExprNode (ExprNode-F.Function (Some own) ps made))
    (let less : suc (suc (m + m)) ≤ suc m + suc m = omega arith in less)
    refl (λ d. refl) (λ table frames h. h) (λ i. e.Function (Some (called i)) ps (r.same i)) (λ h. (subst Short (sym called) h.0, h.1, r.lawful around_script h.2)) (framed {raw = own_frame own} enter refl r.part leave))

weaker : {a b : Walk} {n L M : ℕ} {f : ℕ → Codes} {A : Codes → Frames → Type 0} → L ≤ M → Part a b n f L A → Part a b n f M A
weaker less p = record { codes = p.codes; listed = λ d h. p.listed d (omega arith); moves = p.moves; bound = p.bound }

pub declaration_made : (m : ℕ) {w w' : Walk} (x : Declaration) {name : Units} {qs : List Units} {made : Script} → name ≡ declared_name x → qs ≡ declared_parameters x → Resolves (body_kind m (declared_parameters x)) w (declared_body x) made w'
    → Resolves (declaration_kind (suc m)) w x (declaration_of name qs made) w'
unfolding declaration_count DeclarationBound declaration_bare DeclarationWithin
declaration_made m {w} {w'} x {name} {qs} {made} e same r =
    let opened = out-roll-Declaration (record { name = name; parameters = declared_parameters x; body = made }) in
    subst (λ q. Resolves (declaration_kind (suc m)) w x (declaration_of name q made) w') (sym same) (record {
      part = weaker (let less : suc (m + m) ≤ suc m + suc m = omega arith in less) (said refl (λ d. ap (λ y. body_codes d y.parameters y.body) opened)
          (λ table frames h. subst (λ y. (body_kind m y.parameters).Bound table frames y.body) (sym opened) h) r.part);
      same = ap (λ y. declaration_of y.name y.parameters ((body_kind m y.parameters).bare y.body)) opened ∙ (λ i. declaration_of (e i) (declared_parameters x) (r.same i));
      lawful = λ c h. subst (λ y. Short y.name × Each Short y.parameters × (body_kind m y.parameters).Lawful c y.body) (sym opened) (subst Short (sym e) h.0, h.1, r.lawful c h.2);
    })
