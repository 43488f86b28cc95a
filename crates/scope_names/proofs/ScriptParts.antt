-- What the walk does with a whole script.
use Rattle.std.specs.Prelude.{ℕ, zero, suc, ◌+◌, ◌≤◌, ◌≡◌, refl, min, List, [], ◌∷◌, ◌++◌, Some, map, length, slice_get, sum_by}
use Rattle.std.proofs.Common.{arith, ap, sym, ◌∙◌, subst}
use Rattle.js_tree.specs.declared.Declaration.{Declaration}
use Rattle.js_tree.specs.declared.Script.{Script, out-Script, out-roll-Script}
use Rattle.js_tree.specs.declared.Stmt.{Stmt}
use Rattle.js_tree.specs.Trees.{script_of, script_numbered, declared_parameters, declared_body, number_of, functions_of, statements_of}
use Rattle.js_tree.specs.Calls.{Code}
use Rattle.js_tree.specs.Table.{Codes, all_in, in_script, expr_codes, stmt_codes, body_codes, table_of}
use Rattle.js_tree.specs.Lawful.{LawfulScript, ExprWithin, StmtWithin, DeclarationWithin, Each, around_script}
use Rattle.js_tree.specs.Binds.{IsBound, FrameNames, Frames, frame_of, ExprBound, StmtBound, DeclarationBound}
use Rattle.js_tree.specs.Bare.{bare, expr_bare, stmt_bare, declaration_bare}
use Rattle.js_tree.specs.NameCount.{declared_count, distinct, expr_count, stmt_count, declaration_count}
use Rattle.scope_names.specs.declared.walk.Walk.{Walk}
use Rattle.scope_names.specs.Gathered.{collected}
use Rattle.scope_names.specs.Walks.{Sits, Moves, Part, Resolves, Enters, ScriptBound, list_kind}
use Rattle.scope_names.specs.Kinds.{stmt_kind, declaration_kind}
use Rattle.scope_names.proofs.NameLemmas.{length-gathered}
use Rattle.scope_names.proofs.WalkParts.{two}
use Rattle.scope_names.proofs.FrameParts.{frame_kept}

counted_all : (a b c k l n : ℕ) → a ≡ 0 → k ≡ l → min b 65536 ≡ min (a + k) 65536 → min c 65536 ≡ min (b + n) 65536 → min c 65536 ≡ min (l + n) 65536
counted_all a b c k l n e f g h = omega arith

sits_whole : (table codes : Codes) (from : ℕ) → table ≡ codes → from ≡ 0 → Sits table from codes
sits_whole table codes from e f k code at =
    let here : k ≡ from + k = omega arith in
    subst (λ j. slice_get table j ≡ Some code) here (ap (λ t. slice_get t k) e ∙ at)

pub script_made : {w v t z : Walk} (given : Script) {frame : FrameNames} {fs : List Declaration} {ss : List Stmt} → w.scopes ≡ [] → w.next ≡ 0 → w.names ≡ 0 → Enters w frame v → frame ≡ collected (frame_of [] given)
    → Resolves (list_kind (declaration_kind 200)) v (functions_of given) fs t → Resolves (list_kind (stmt_kind 200)) t (statements_of given) ss z → ScriptBound given (script_numbered 0 fs ss) z.names
unfolding table_of bare LawfulScript declared_count
script_made {w} {v} {t} {z} given {frame} {fs} {ss} outside first none enter same r q =
    let made : Script = script_numbered 0 fs ss in
    let opened = out-roll-Script (record { number = 0; functions = fs; statements = ss }) in
    let p = two r.part q.part in
    let enough : 200 + 200 ≤ 400 = omega arith in
    let table_is : table_of made ≡ p.codes = ap (λ y. all_in (λ x. body_codes 400 (declared_parameters x) (declared_body x)) y.functions ++ all_in (stmt_codes 400) y.statements) opened ∙ p.listed 400 enough in
    let starts : v.next ≡ 0 = enter.next ∙ first in
    let frames_same : frame_of [] made ≡ frame_of [] given = frame_kept 200 [] 0 given fs ss r.same q.same in
    let within : v.scopes ≡ map collected (frame_of [] given ∷ []) = enter.scopes ∙ (λ i. same i ∷ outside i) in
    let got = p.bound (table_of made) (frame_of [] given ∷ []) within (sits_whole (table_of made) p.codes v.next table_is starts) in
    record {
      bound = record {
        names = subst (λ g. Each (DeclarationBound (table_of made) 200 (g ∷ [])) (functions_of made) × Each (StmtBound (table_of made) 200 (g ∷ [])) (statements_of made)) (sym frames_same)
            (subst (λ y. Each (DeclarationBound (table_of made) 200 (frame_of [] given ∷ [])) y.functions × Each (StmtBound (table_of made) 200 (frame_of [] given ∷ [])) y.statements) (sym opened) got);
        numbers = λ k code at. (let here : v.next + k ≡ k = omega arith in p.moves.numbered k code (sym (ap (λ c. slice_get c k) table_is) ∙ at) ∙ here);
        top = ap (λ y. y.number) opened;
      };
      same = ap (λ y. script_of (map (declaration_bare 200) y.functions) (map (stmt_bare 200) y.statements)) opened ∙ (λ i. script_of (r.same i) (q.same i));
      lawful = λ h. subst (λ y. Each (DeclarationWithin 200) y.functions × Each (StmtWithin 200 around_script) y.statements) (sym opened) (r.lawful around_script h.0, q.lawful around_script h.1);
      counted = counted_all w.names v.names z.names (length frame.names) (distinct (frame_of [] given).names) (sum_by (declaration_count 200) (functions_of given) + sum_by (stmt_count 200) (statements_of given)) none
          (ap (λ g. length g.names) same ∙ length-gathered (frame_of [] given).names) enter.counted p.moves.counted;
    }
