-- What the look-ups of a value say of its leaves.
use Rattle.std.proofs.Common.{◌≡◌, ℕ, zero, suc, ◌<◌, List, [], ◌∷◌, length, Option, Some, None, is_some, option_and_then, refl, sym, ap, ◌∙◌, true≢false, arith, get_or}
use Rattle.std.proofs.Common.{drop}
use Rattle.std.specs.Prelude.{map, MatchOption, IfOk, Result, Ok, Err}
use Rattle.serde_json.specs.Data.{Data, null, boolean, number, string, array, object, unsigned, negative, float, Items, no_items, item}
use Rattle.serde_json.specs.View.{items_of, view}
use Rattle.serde_json.specs.declared.value.Value.{Value}
use Rattle.serde_json.specs.Find.{as_array, as_str, as_number, as_u64}
use Rattle.reply_text.specs.Leaves.{Leaf, text, whole, IsLine, leaf_data, leaf_items}
use Rattle.reply_text.specs.LeafData.{IsNoLeaf, AreNoLeaves}
use Rattle.reply_text.proofs.Grammar.{some_inj, line_law}

never_some : {A : Type 0} (x : A) → None ≡ Some x → ⊥
never_some x e = true≢false (sym (ap is_some e))

pub no_leaf_data : (d : Data) → as_str d ≡ None → option_and_then as_u64 (as_number d) ≡ None → IsNoLeaf d
no_leaf_data d h k (text s) e = never_some _ (sym h ∙ ap as_str e)
no_leaf_data d h k (whole n) e = never_some _ (sym k ∙ ap (λ x. option_and_then as_u64 (as_number x)) e)

pub text_data : (d : Data) (s : List ℕ) → as_str d ≡ Some s → d ≡ string s
text_data null s e = absurd (never_some _ e)
text_data (boolean b) s e = absurd (never_some _ e)
text_data (number n) s e = absurd (never_some _ e)
text_data (string t) s e = ap string (some_inj [] t s e)
text_data (array ds) s e = absurd (never_some _ e)
text_data (object ms) s e = absurd (never_some _ e)

pub whole_data : (d : Data) (n : ℕ) → option_and_then as_u64 (as_number d) ≡ Some n → d ≡ number (unsigned n)
whole_data null n e = absurd (never_some _ e)
whole_data (boolean b) n e = absurd (never_some _ e)
whole_data (number (unsigned m)) n e = ap (λ (k : ℕ). number (unsigned k)) (some_inj 0 m n e)
whole_data (number (negative z)) n e = absurd (never_some _ e)
whole_data (number (float x)) n e = absurd (never_some _ e)
whole_data (string t) n e = absurd (never_some _ e)
whole_data (array ds) n e = absurd (never_some _ e)
whole_data (object ms) n e = absurd (never_some _ e)

-- an item that is no leaf
abbrev first_of : List Data → Option Data
first_of [] = None
first_of (y ∷ ys) = Some y

cons_nil : (x : Data) (xs : List Data) → x ∷ xs ≡ [] → ⊥
cons_nil x xs q = never_some _ (sym (ap first_of q))

pub none_at : (vs : List Value) (i : ℕ) (v : Value) → v ≡ get_or vs i v → i < length vs → IsNoLeaf (view v) → AreNoLeaves (map view vs)
none_at [] i v at h bare ls e = absurd (let never : ⊥ = omega arith in never)
none_at (x ∷ vs) i v at h bare [] e = absurd (cons_nil _ _ e)
none_at (x ∷ vs) zero v at h bare (l ∷ ls) e = bare l (ap view at ∙ ap (λ (ds : List Data). get_or ds 0 (view v)) e)
none_at (x ∷ vs) (suc i) v at h bare (l ∷ ls) e = none_at vs i v at (omega arith) bare ls (ap (λ (ds : List Data). drop 1 ds) e)

pub array_data : (d : Data) (ds : Items) → Some ds ≡ as_array d → d ≡ array ds
array_data null ds e = absurd (never_some _ (sym e))
array_data (boolean b) ds e = absurd (never_some _ (sym e))
array_data (number n) ds e = absurd (never_some _ (sym e))
array_data (string s) ds e = absurd (never_some _ (sym e))
array_data (array es) ds e = ap array (sym (some_inj no_items ds es e))
array_data (object ms) ds e = absurd (never_some _ (sym e))

pub lift : {V E : Type 0} (r : Result (Option V) E) (P Q : Type 0) (R S : V → Type 0) → (P → Q) → ((v : V) → R v → S v)
    → IfOk r (λ o. MatchOption o P R) → IfOk r (λ o. MatchOption o Q S)
lift (Ok None) P Q R S f g h = f h
lift (Ok (Some v)) P Q R S f g h = g v h
lift (Err e) P Q R S f g h = tt

-- lists of items and the items of a value are the same
pub items_list : Items → List Data
items_list no_items = []
items_list (item d ds) = d ∷ items_list ds

pub items_list-items_of : (ds : List Data) → items_list (items_of ds) ≡ ds
unfolding items_list
items_list-items_of [] = refl
items_list-items_of (d ∷ ds) = ap (λ l. d ∷ l) (items_list-items_of ds)

pub items_list-leaf_items : (ls : List Leaf) → items_list (leaf_items ls) ≡ map leaf_data ls
unfolding items_list
items_list-leaf_items [] = refl
items_list-leaf_items (l ∷ ls) = ap (λ k. leaf_data l ∷ k) (items_list-leaf_items ls)

pub items_of-leaves : (ls : List Leaf) → items_of (map leaf_data ls) ≡ leaf_items ls
items_of-leaves [] = refl
items_of-leaves (l ∷ ls) = ap (λ k. item (leaf_data l) k) (items_of-leaves ls)

-- ---- a line has one list of leaves

back : Data → Leaf
back (string s) = text s
back (number (unsigned n)) = whole n
back _ = whole 0

undone : (ls : List Leaf) → map back (map leaf_data ls) ≡ ls
unfolding back
undone [] = refl
undone (text s ∷ ls) = ap (λ k. text s ∷ k) (undone ls)
undone (whole n ∷ ls) = ap (λ k. whole n ∷ k) (undone ls)

pub one_list : (line : List ℕ) (ls ms : List Leaf) → IsLine line ls → IsLine line ms → ls ≡ ms
one_list line ls ms h k =
    let same = some_inj null _ _ (sym ((line_law line ls h.0).1 h) ∙ (line_law line ms k.0).1 k) in
    let items = some_inj no_items _ _ (ap as_array same) in
    let data_same = sym (items_list-leaf_items ls) ∙ ap items_list items ∙ items_list-leaf_items ms in
    sym (undone ls) ∙ ap (map back) data_same ∙ undone ms
