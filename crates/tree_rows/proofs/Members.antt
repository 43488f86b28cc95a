-- Members and places, by one level of a tree.
use Rattle.std.proofs.Common.{◌≡◌, refl}
use Rattle.js_tree.specs.declared.Expr.{Expr}
use Rattle.js_tree.specs.declared.ExprNode.{ExprNode}
use Rattle.js_tree.specs.declared.ExprNode.TheOpen.{ExprNode-F}
use Rattle.js_tree.specs.declared.Key.{Key}
use Rattle.js_tree.specs.declared.Named.{Named}
use Rattle.js_tree.specs.Trees.{ExprLevel}
use Rattle.js_tree.specs.Expressions.{place_of}
use Rattle.js_tree.specs.Pieces.{Here, Place, Given}
use Rattle.turk_base.specs.Prog.{Prog, Then}

-- a node that is no name and no member is evaluated
pub place_other : (expr : Here → Expr → Prog) (here : Here) (e : Expr) (node : ExprLevel) (go : Place → Prog) → ((x : Named) → node ≡ ExprNode-F.Name x → ⊥) → ((b : Expr) (k : Key) → node ≡ ExprNode-F.Member b k → ⊥)
    → place_of expr here e node go ≡ Then (expr here e) (λ v. go (Given v))
place_other expr here e (ExprNode-F.Name x) go n m = absurd (n x refl)
place_other expr here e (ExprNode-F.Member b k) go n m = absurd (m b k refl)
place_other expr here e ExprNode-F.This go n m = refl
place_other expr here e (ExprNode-F.Literal x) go n m = refl
place_other expr here e (ExprNode-F.Array x) go n m = refl
place_other expr here e (ExprNode-F.Object x) go n m = refl
place_other expr here e (ExprNode-F.Function x y z) go n m = refl
place_other expr here e (ExprNode-F.Call x y) go n m = refl
place_other expr here e (ExprNode-F.New x y) go n m = refl
place_other expr here e (ExprNode-F.Update x y z) go n m = refl
place_other expr here e (ExprNode-F.Delete x y) go n m = refl
place_other expr here e (ExprNode-F.Void x) go n m = refl
place_other expr here e (ExprNode-F.Typeof x) go n m = refl
place_other expr here e (ExprNode-F.Unary x y) go n m = refl
place_other expr here e (ExprNode-F.Binary x y z) go n m = refl
place_other expr here e (ExprNode-F.And x y) go n m = refl
place_other expr here e (ExprNode-F.Or x y) go n m = refl
place_other expr here e (ExprNode-F.Conditional x y z) go n m = refl
place_other expr here e (ExprNode-F.Assign x y z) go n m = refl
place_other expr here e (ExprNode-F.Comma x y) go n m = refl
place_other expr here e (ExprNode-F.Print x) go n m = refl
place_other expr here e (ExprNode-F.Post x) go n m = refl
place_other expr here e (ExprNode-F.Reply x) go n m = refl
place_other expr here e (ExprNode-F.Prompt x) go n m = refl
place_other expr here e (ExprNode-F.Random x) go n m = refl
place_other expr here e (ExprNode-F.Once x) go n m = refl
place_other expr here e (ExprNode-F.Fork x) go n m = refl
place_other expr here e ExprNode-F.Join go n m = refl
place_other expr here e ExprNode-F.Crash go n m = refl
