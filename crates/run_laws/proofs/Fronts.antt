-- Fronts of lists of records, and the record that is found at a path.
use Rattle.std.specs.Prelude.{ℤ, List, Option, Some, None}
use Rattle.std.proofs.Common.{◌≡◌, refl, ap, ◌⊎◌, inl, inr, [], ◌∷◌, ◌++◌, sym, ◌∙◌}
use Rattle.turk_base.specs.declared.Record.{Record}
use Rattle.turk_base.specs.declared.Record.TheVariants as kept
use Rattle.turk_base.specs.Asks.{Rec, rec, path_of, find}
use Rattle.turk_base.specs.Names.{Path, In, first, later, path_eq, pick, integer_eq}
use Rattle.js_tree.specs.World.{drawn_of}
use Rattle.run_laws.proofs.Props.{pick_yes}
use Rattle.run_laws.specs.Stops.{Front}

pub assoc : (a b c : List Rec) → (a ++ b) ++ c ≡ a ++ (b ++ c)
assoc [] b c = refl
assoc (x ∷ a) b c = ap (λ z. x ∷ z) (assoc a b c)

pub nothing_more : (a : List Rec) → a ≡ a ++ []
nothing_more [] = refl
nothing_more (x ∷ a) = ap (λ z. x ∷ z) (nothing_more a)

abbrev head_or : Rec → List Rec → Rec
head_or d [] = d
head_or d (x ∷ a) = x

abbrev tail_of : List Rec → List Rec
tail_of [] = []
tail_of (x ∷ a) = a

pub same_head : {x y : Rec} {a b : List Rec} → x ∷ a ≡ y ∷ b → x ≡ y
same_head {x = x} e = ap (λ l. head_or x l) e

pub same_tail : {x y : Rec} {a b : List Rec} → x ∷ a ≡ y ∷ b → a ≡ b
same_tail e = ap tail_of e

pub not_nil : {x : Rec} {a : List Rec} → [] ≡ x ∷ a → ⊥
not_nil e = cc

-- Two fronts of one list: one is a front of the other.
abbrev pub Meets : List Rec → List Rec → List Rec → List Rec → Type 0
Meets a b x y = ((c : List Rec) × (b ≡ a ++ c) × (x ≡ c ++ y)) ⊎ ((h : Rec) × (c : List Rec) × (a ≡ b ++ (h ∷ c)) × (y ≡ h ∷ (c ++ x)))

pub meet : (a b x y : List Rec) → a ++ x ≡ b ++ y → Meets a b x y
meet [] b x y e = inl (b, refl, e)
meet (p ∷ a) [] x y e = inr (p, a, refl, sym e)
meet (p ∷ a) (q ∷ b) x y e = inner (same_head e) (meet a b x y (same_tail e))
  where
    inner : p ≡ q → Meets a b x y → Meets (p ∷ a) (q ∷ b) x y
    inner z (inl (c, h, k)) = inl (c, ap (λ l. q ∷ l) h ∙ ap (λ p. p ∷ (a ++ c)) (sym z), k)
    inner z (inr (h, c, k, j)) = inr (h, c, ap (λ l. p ∷ l) k ∙ ap (λ p. p ∷ (b ++ (h ∷ c))) z, j)

pub front : {a l : List Rec} (rest : List Rec) → l ≡ a ++ rest → Front a l
front rest e = record { rest = rest; is = e }

pub front_trans : {a b c : List Rec} → Front a b → Front b c → Front a c
front_trans {a} f g = front (f.rest ++ g.rest) (g.is ∙ ap (λ l. l ++ g.rest) f.is ∙ assoc a f.rest g.rest)

pub front_add : {a b : List Rec} (l : List Rec) → Front a b → Front (l ++ a) (l ++ b)
front_add {a} l f = front f.rest (ap (λ b. l ++ b) f.is ∙ sym (assoc l a f.rest))

-- ---- what is found

pub find_over : (p : Path) (a b : List Rec) → find p a ≡ None → find p (a ++ b) ≡ find p b
find_over p [] b e = refl
find_over p (q ∷ a) b e = inner (path_eq (path_of q) p) e (λ z. find_over p a b z)
  where
    inner : (d : Dec (path_of q ≡ p)) → pick d (Some q) (find p a) ≡ None → (find p a ≡ None → find p (a ++ b) ≡ find p b) → pick d (Some q) (find p (a ++ b)) ≡ find p b
    inner (yes d) z h = absurd (some_none z)
      where
        some_none : {x : Rec} → Some x ≡ None → ⊥
        some_none e = cc
    inner (no d) z h = h z

pub find_new : (p : Path) (a : List Rec) → ((r : Rec) → In Rec r a → path_of r ≡ p → ⊥) → find p a ≡ None
find_new p [] n = refl
find_new p (q ∷ a) n = inner (path_eq (path_of q) p) (find_new p a (λ r m e. n r (later m) e))
  where
    inner : (d : Dec (path_of q ≡ p)) → find p a ≡ None → pick d (Some q) (find p a) ≡ None
    inner (yes d) z = absurd (n q first d)
    inner (no d) z = z

find_first : (p : Path) (x : Record) (a : List Rec) → find p (rec p x ∷ a) ≡ Some (rec p x)
find_first p x a = pick_yes (find p a) (path_eq p p) refl

-- after a trace and records that have none at the path
pub find_made : (p : Path) (T m : List Rec) (x : Record) (a : List Rec) → find p T ≡ None → ((r : Rec) → In Rec r m → path_of r ≡ p → ⊥) →
    find p (T ++ (m ++ (rec p x ∷ a))) ≡ Some (rec p x)
find_made p T m x a e n = find_over p T (m ++ (rec p x ∷ a)) e ∙ find_over p m (rec p x ∷ a) (find_new p m n) ∙ find_first p x a

pub drawn_same : (k n : ℤ) (p : Path) (o : Option Rec) → o ≡ Some (rec p (kept.Draw k n)) → drawn_of k o ≡ Some n
drawn_same k n p o e = ap (λ o. drawn_of k o) e ∙ pick_yes None (integer_eq k k) refl
