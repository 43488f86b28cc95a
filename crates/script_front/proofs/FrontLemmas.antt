-- How the answers of the lexer and of the parser join.
use Rattle.std.proofs.Common.{◌≡◌, ◌≢◌, ℕ, ◌≤◌, List, length, Result, Ok, Err, refl, sym, ap, subst, ◌∙◌, arith}
use Rattle.js_lexer.specs.declared.Token.{Token}
use Rattle.js_lexer.specs.declared.LexStop.{LexStop}
use Rattle.js_lexer.specs.declared.LexStop.TheVariants as lex
use Rattle.js_lexer.specs.Tokens.{Tokens, Answers, IsOnly}
use Rattle.js_parser.specs.declared.ParseStop.{ParseStop}
use Rattle.js_parser.specs.declared.ParseStop.TheVariants as parse
use Rattle.js_parser.specs.Parses.{Refused}
use Rattle.js_tree.specs.declared.Script.{Script}
use Rattle.js_tree.specs.Lawful.{LawfulScript}
use Rattle.lawful_reads.specs.Laws.{ScriptIsLawful}
use Rattle.js_tree.specs.Bare.{bare}
use Rattle.js_tree.specs.NameCount.{declared_count, name_limit}
use Rattle.script_front.specs.Front.{IsRead, IsTree, stop_of_tokens, stop_of_tree}
use Rattle.script_front.specs.declared.ScriptStop.{ScriptStop}
use Rattle.script_front.specs.declared.ScriptStop.TheVariants as stop
use Rattle.script_grammar.specs.Goes.{Reads}

err_ok : {A B : Type 0} {x : A} {y : B} → Err y ≡ Ok x → ⊥
err_ok e = subst Is e tt
  where
    Is : {A B : Type 0} → Result A B → Type 0
    Is (Err y) = Unit {0}
    Is (Ok x) = ⊥

ok_err : {A B : Type 0} {x : A} {y : B} → Ok x ≡ Err y → ⊥
ok_err e = err_ok (sym e)

ok_is : {A B : Type 0} {x y : A} → ◌≡◌ {A = Result A B} (Ok x) (Ok y) → x ≡ y
ok_is {A} {B} {x} e = ap or_x e
  where
    or_x : Result A B → A
    or_x (Ok z) = z
    or_x (Err z) = x

-- ---- no tokens

told : Result (List Token) LexStop → Result Script ScriptStop
told (Ok ts) = Err stop.Memory
told (Err e) = Err (stop_of_tokens e)

module _ (e : LexStop) (s : ScriptStop) (is : s ≡ stop_of_tokens e) where
  pub no_tokens : (bytes : List ℕ) → Answers bytes (Err e) → IsTree bytes (Err s)
  no_tokens bytes a = subst (λ z. IsTree bytes (Err z)) (sym is) (go e a)
    where
      go : (e : LexStop) → Answers bytes (Err e) → IsTree bytes (Err (stop_of_tokens e))
      go (lex.NotUtf8 place) a = a
      go (lex.BadToken place) a = a
      go (lex.NumberForm place) a = a
      go lex.TooLarge a = a
      go lex.Memory a = a

  pub no_tokens_only : {ts : List Token} {t : Script} → IsOnly (Err e) (Ok ts) → ◌≢◌ {A = Result Script ScriptStop} (Err s) (Err stop.Memory) → ◌≡◌ {A = Result Script ScriptStop} (Err s) (Ok t)
  unfolding told
  no_tokens_only o not = absurd (err_ok (o (λ q. not (ap Err is ∙ ap told q))))

-- ---- tokens

module _ {bytes : List ℕ} {found slice : List Token} (lend : slice ≡ found) (few : length bytes ≤ 1048576) (are : Tokens bytes found) where
  pub a_tree : {tree : Script} → Reads slice tree 200 → IsTree bytes (Ok tree)
  a_tree {tree} r = (few, found, are, subst (λ l. Reads l tree 200) lend r)

  pub a_lawful_tree : {tree : Script} → ScriptIsLawful → Reads slice tree 200 → LawfulScript tree
  a_lawful_tree {tree} law r = law bytes found tree few are (subst (λ l. Reads l tree 200) lend r)

  pub no_tree : (e : ParseStop) (s : ScriptStop) → s ≡ stop_of_tree e → Refused slice e → IsTree bytes (Err s)
  no_tree e s is r = subst (λ z. IsTree bytes (Err z)) (sym is) (go e (subst (λ l. Refused l e) lend r))
    where
      go : (e : ParseStop) → Refused found e → IsTree bytes (Err (stop_of_tree e))
      go (parse.Syntax place) a = (few, found, are, a)
      go (parse.LeftOut place form) a = (few, found, are, a)
      go parse.Nesting a = (few, found, are, a)
      go parse.Memory a = tt

-- other tokens that the bytes are cut into are the same, so what is read of them is read of these
module _ {found slice ts : List Token} (lend : slice ≡ found) (only : IsOnly (Ok found) (Ok ts)) where
  same : ts ≡ slice
  same = sym (ok_is (only (λ q. ok_err q))) ∙ sym lend

  pub only_tree : {tree t : Script} → (Reads slice t 200 → ◌≢◌ {A = Result Script ParseStop} (Ok tree) (Err parse.Memory) → ◌≡◌ {A = Result Script ParseStop} (Ok tree) (Ok t)) → Reads ts t 200 → ◌≡◌ {A = Result Script ScriptStop} (Ok tree) (Ok t)
  only_tree {tree} {t} o r = ap Ok (ok_is (o (subst (λ l. Reads l t 200) same r) (λ q. ok_err q)))

  pub only_no_tree : (e : ParseStop) (s : ScriptStop) → s ≡ stop_of_tree e → {t : Script} → (Reads slice t 200 → ◌≢◌ {A = Result Script ParseStop} (Err e) (Err parse.Memory) → ◌≡◌ {A = Result Script ParseStop} (Err e) (Ok t))
      → Reads ts t 200 → ◌≢◌ {A = Result Script ScriptStop} (Err s) (Err stop.Memory) → ◌≡◌ {A = Result Script ScriptStop} (Err s) (Ok t)
  only_no_tree e s is {t} o r not = absurd (err_ok (o (subst (λ l. Reads l t 200) same r) (λ q. not (ap Err is ∙ ap told_tree q))))
    where
      told_tree : Result Script ParseStop → Result Script ScriptStop
      told_tree (Ok x) = Err stop.Memory
      told_tree (Err e) = Err (stop_of_tree e)

-- ---- names

pub read_refused : (bytes : List ℕ) (s : ScriptStop) → IsTree bytes (Err s) → IsRead bytes (Err s)
read_refused bytes (stop.NotUtf8 place) a = a
read_refused bytes (stop.BadToken place) a = a
read_refused bytes (stop.NumberForm place) a = a
read_refused bytes stop.TooLarge a = a
read_refused bytes (stop.Syntax place) a = a
read_refused bytes (stop.LeftOut place form) a = a
read_refused bytes stop.Nesting a = a
read_refused bytes stop.TooManyNames a = elim a [ ]
read_refused bytes stop.Memory a = a

pub read_bound : (bytes : List ℕ) (tree script : Script) → IsTree bytes (Ok tree) → bare script ≡ bare tree → declared_count tree ≤ name_limit → IsRead bytes (Ok script)
read_bound bytes tree script a same few = (tree, a, same, few)
