-- What a call of Cells needs, over the fields and what a contract sees of them.
use Rattle.std.proofs.Common.{◌≡◌, ◌∙◌, subst, ap, refl, sym, ℕ, zero, suc, nat_eq, ◌≤◌, ◌<◌, List, [], ◌∷◌, ◌++◌, length, set, map, get_or, Option, Some, None, IsSome, is_some, true≢false, slice_get, take, drop, arith, option_map, option_copied, option_to_list, IfSome, IfNone, Result, Ok, Err, OnErr, Vec}
use Rattle.std.specs.Borrow.{Bor}
use Rattle.std.specs.List.{IsDistinct}
use Rattle.std.specs.declared.alloc.Global.{Global}
use Rattle.std.proofs.lemmas.Option.{slice_get-map, slice_get_read}
use Rattle.std.proofs.lemmas.List.{map-set, map-append, length-map, set-get_or}
use Rattle.std.specs.Map.{keys_of, lookup, set_value, remove_entry}
use Rattle.key_table.specs.Keys.{HasNumber, HasNone, NamesNone, AreDistinct, Grows}
use Rattle.value_cells.specs.declared.Value.{Value}
use Rattle.value_cells.specs.declared.CellData.{CellData}
use Rattle.value_cells.specs.declared.Cells.TheInside.{Inside}
use Rattle.value_cells.specs.Needs.{needs, kind_needs, props_needs}
use Rattle.value_cells.specs.Held.{Held, Props, Key, key_eq, count, names_of, kinds_of, props_in, props_at, with_props, IsWhole}
use Rattle.value_cells.specs.Named.{Entries, key_in, named, AreNumbers, cell_of, stored, IsNumbered}
use Rattle.value_cells.specs.declared.history.History.{History}
use Rattle.value_cells.specs.declared.history.Step.{Step}
use Rattle.value_cells.specs.declared.history.Point.{Point}
use Rattle.value_cells.specs.Stored.{past, held, AreKept, IsGood}
use Rattle.value_cells.specs.Undone.{before, befores, put, AreNested}
use Rattle.value_cells.proofs.Lists.{pushed, whole-pushed, get_last, get_front, lookup-needs, set-needs, push-needs, remove-needs, set-with, whole-with}
use Rattle.value_cells.proofs.Undone.{changed-at, now-point, opened, nested-open, given-back, taken, ordered, p-at, length-undone, length-take}
use Rattle.value_cells.proofs.Named.{text_is, has_text, lookup_named, lookup_none, set_named, remove_named, push_named, numbers_set, numbers_remove, numbers_push, number_at, key_named, distinct_named, all_set, stored_more, all_more}

module _ (a : Inside) (h : Held) (view : held a ≡ h) (good : IsGood a) where
  now-is : stored a.keys a.cells.items ≡ h.now
  now-is = ap (λ h. h.now) view

  pub count-told : length a.cells.items ≡ count h.now
  count-told = sym (length-map a.cells.items (cell_of a.keys)) ∙ ap length now-is

  pub whole-told : IsWhole h.now
  whole-told = subst IsWhole now-is good.now.whole

  -- a key without a number is missing everywhere
  pub no-own : (i : ℕ) (key : Key) → HasNone a.keys key → lookup (key_eq key) (props_at h.now i) ≡ None
  no-own i key none =
      ap (λ cs. lookup (key_eq key) (props_at cs i)) (sym now-is) ∙ ap (λ o. lookup (key_eq key) (props_in o)) (slice_get-map (cell_of a.keys) a.cells.items i)
      ∙ by (slice_get a.cells.items i) refl
    where
      by : (o : Option CellData) → slice_get a.cells.items i ≡ o → lookup (key_eq key) (props_in (option_map (cell_of a.keys) o)) ≡ None
      by None e = refl
      by (Some d) e = lookup_none a.keys key none d.props (good.now.numbers.each i d e)

  module _ (i : ℕ) (d : CellData) (here : i < count h.now) (at : d ≡ get_or a.cells.items i d) where
    pub data-is : slice_get a.cells.items i ≡ Some d
    data-is = slice_get_read a.cells.items (length a.cells.items) i d refl (omega (arith, count-told, here)) at

    pub cell-is : slice_get h.now i ≡ Some (cell_of a.keys d)
    cell-is = ap (λ cs. slice_get cs i) (sym now-is) ∙ slice_get-map (cell_of a.keys) a.cells.items i ∙ ap (option_map (cell_of a.keys)) data-is

    pub name-told : slice_get (names_of h.now) i ≡ Some d.name
    name-told = slice_get-map (λ c. c.name) h.now i ∙ ap (option_map (λ c. c.name)) cell-is

    pub kind-told : slice_get (kinds_of h.now) i ≡ Some d.kind
    kind-told = slice_get-map (λ c. c.kind) h.now i ∙ ap (option_map (λ c. c.kind)) cell-is

    pub older-told : kind_needs d.kind ≤ i
    older-told = whole-told.older i d.kind kind-told

    pub props-told : props_at h.now i ≡ named a.keys d.props
    props-told = ap props_in cell-is

    pub numbers-told : AreNumbers a.keys d.props
    numbers-told = good.now.numbers.each i d data-is

    props-exist : props_needs (named a.keys d.props) ≤ count h.now
    props-exist = whole-told.exist i (cell_of a.keys d) cell-is

    pub length-told : length d.props ≡ length (props_at h.now i)
    length-told = sym (length-map d.props (λ (e : ℕ × Value). (key_in a.keys e.0, e.1))) ∙ ap length (sym props-told)

    -- the key at a place, told by its number
    pub key-told : (place : ℕ) (o : Option ℕ) → slice_get (keys_of d.props) place ≡ o → option_map (key_in a.keys) o ≡ slice_get (keys_of (props_at h.now i)) place
    key-told place o e = sym (key_named a.keys d.props place o e) ∙ ap (λ ps. slice_get (keys_of ps) place) (sym props-told)

    pub number-told : (place n : ℕ) → slice_get (keys_of d.props) place ≡ Some n → HasNumber a.keys (key_in a.keys n) n
    number-told place n e = number_at a.keys d.props place n numbers-told e

    -- the cell gets other properties
    changed : (es : Entries) → stored a.keys (set a.cells.items i (record d { props = es })) ≡ with_props h.now i (named a.keys es)
    changed es = map-set (cell_of a.keys) a.cells.items i (record d { props = es }) ∙ ap (λ cs. set cs i (cell_of a.keys (record d { props = es }))) now-is ∙ set-with h.now i (cell_of a.keys d) (named a.keys es) cell-is

    whole-changed : (es : Entries) (ps : Props) → named a.keys es ≡ ps → props_needs ps ≤ count h.now → IsWhole (stored a.keys (set a.cells.items i (record d { props = es })))
    whole-changed es ps e n = subst IsWhole (sym (changed es ∙ ap (with_props h.now i) e)) (whole-with h.now i ps whole-told n)

    pub same-told : stored a.keys (set a.cells.items i (record d { props = d.props })) ≡ h.now
    same-told = ap (stored a.keys) (ap (set a.cells.items i) at ∙ set-get_or a.cells.items i d) ∙ now-is

    pub whole-same : IsWhole (stored a.keys (set a.cells.items i (record d { props = d.props })))
    whole-same = subst IsWhole (sym same-told) whole-told

    pub numbers-same : IsNumbered a.keys (set a.cells.items i (record d { props = d.props }))
    numbers-same = all_set a.keys a.cells.items i (record d { props = d.props }) good.now.numbers numbers-told

    pub distinct-told : IsDistinct nat_eq (keys_of d.props) → IsDistinct key_eq (keys_of (props_at h.now i))
    distinct-told apart = subst (λ ps. IsDistinct key_eq (keys_of ps)) (sym props-told) (distinct_named a.keys good.distinct d.props numbers-told apart)

    module _ (key : Key) (n : ℕ) (has : HasNumber a.keys key n) where
      pub value-told : lookup (nat_eq n) d.props ≡ lookup (key_eq key) (props_at h.now i)
      value-told = sym (lookup_named a.keys good.distinct key n has d.props numbers-told) ∙ ap (lookup (key_eq key)) (sym props-told)

      pub value-exists : (v : Value) → lookup (nat_eq n) d.props ≡ Some v → needs v ≤ count h.now
      value-exists v e = let l = lookup-needs (key_eq key) (named a.keys d.props) v (lookup_named a.keys good.distinct key n has d.props numbers-told ∙ e) in omega (arith, l, props-exist)

      pub written : (v : Value) → stored a.keys (set a.cells.items i (record d { props = set_value (nat_eq n) d.props v })) ≡ with_props h.now i (set_value (key_eq key) (props_at h.now i) v)
      written v = changed (set_value (nat_eq n) d.props v) ∙ ap (with_props h.now i) (set_named a.keys good.distinct key n has d.props v numbers-told ∙ ap (λ ps. set_value (key_eq key) ps v) (sym props-told))

      pub whole-written : (v : Value) → needs v ≤ count h.now → IsWhole (stored a.keys (set a.cells.items i (record d { props = set_value (nat_eq n) d.props v })))
      whole-written v k = whole-changed (set_value (nat_eq n) d.props v) (set_value (key_eq key) (named a.keys d.props) v) (set_named a.keys good.distinct key n has d.props v numbers-told) (set-needs (key_eq key) (named a.keys d.props) v (count h.now) props-exist k)

      pub numbers-written : (v : Value) → IsNumbered a.keys (set a.cells.items i (record d { props = set_value (nat_eq n) d.props v }))
      numbers-written v = all_set a.keys a.cells.items i (record d { props = set_value (nat_eq n) d.props v }) good.now.numbers (numbers_set a.keys (nat_eq n) d.props v numbers-told)

      pub created : (v : Value) → stored a.keys (set a.cells.items i (record d { props = d.props ++ (n, v) ∷ [] })) ≡ with_props h.now i (props_at h.now i ++ (key, v) ∷ [])
      created v = changed (d.props ++ (n, v) ∷ []) ∙ ap (with_props h.now i) (push_named a.keys good.distinct key n has d.props v ∙ ap (λ ps. ps ++ (key, v) ∷ []) (sym props-told))

      pub whole-created : (v : Value) → needs v ≤ count h.now → IsWhole (stored a.keys (set a.cells.items i (record d { props = d.props ++ (n, v) ∷ [] })))
      whole-created v k = whole-changed (d.props ++ (n, v) ∷ []) (named a.keys d.props ++ (key, v) ∷ []) (push_named a.keys good.distinct key n has d.props v) (push-needs (named a.keys d.props) key v (count h.now) props-exist k)

      pub numbers-created : (v : Value) → IsNumbered a.keys (set a.cells.items i (record d { props = d.props ++ (n, v) ∷ [] }))
      numbers-created v = all_set a.keys a.cells.items i (record d { props = d.props ++ (n, v) ∷ [] }) good.now.numbers (numbers_push a.keys d.props n v numbers-told (has_text a.keys key n has))

      pub deleted : stored a.keys (set a.cells.items i (record d { props = remove_entry (nat_eq n) d.props })) ≡ with_props h.now i (remove_entry (key_eq key) (props_at h.now i))
      deleted = changed (remove_entry (nat_eq n) d.props) ∙ ap (with_props h.now i) (remove_named a.keys good.distinct key n has d.props numbers-told ∙ ap (remove_entry (key_eq key)) (sym props-told))

      pub whole-deleted : IsWhole (stored a.keys (set a.cells.items i (record d { props = remove_entry (nat_eq n) d.props })))
      whole-deleted = whole-changed (remove_entry (nat_eq n) d.props) (remove_entry (key_eq key) (named a.keys d.props)) (remove_named a.keys good.distinct key n has d.props numbers-told) (remove-needs (key_eq key) (named a.keys d.props) (count h.now) props-exist)

      pub numbers-deleted : IsNumbered a.keys (set a.cells.items i (record d { props = remove_entry (nat_eq n) d.props }))
      numbers-deleted = all_set a.keys a.cells.items i (record d { props = remove_entry (nat_eq n) d.props }) good.now.numbers (numbers_remove a.keys (nat_eq n) d.props numbers-told)

    -- it is the only one there
    pub data-same : (k : CellData) → k ≡ get_or a.cells.items i k → k ≡ d
    data-same k e = by (sym (slice_get_read a.cells.items (length a.cells.items) i k refl (omega (arith, count-told, here)) e) ∙ data-is)
      where
        by : Some k ≡ Some d → k ≡ d
        by e = cc

    -- what there was at the marks, where the cell gets other properties
    pub past-put : (ss : List Step) (ps : List Point) (es : Entries) → befores ss ps (put i es a.cells.items) ≡ past a → befores ss ps (set a.cells.items i (record d { props = es })) ≡ past a
    past-put ss ps es e = ap (befores ss ps) (changed-at (λ _. es) a.cells.items i d data-is) ∙ e

    pub past-back : (ss : List Step) (ps : List Point) → befores ss ps a.cells.items ≡ past a → befores ss ps (set a.cells.items i (record d { props = d.props })) ≡ past a
    past-back ss ps e = ap (befores ss ps) (ap (set a.cells.items i) at ∙ set-get_or a.cells.items i d) ∙ e

  -- a cell without properties is added
  module _ (d : CellData) (none : d.props ≡ []) where
    pub made : stored a.keys (a.cells.items ++ d ∷ []) ≡ h.now ++ record { name = d.name; kind = d.kind; props = [] } ∷ []
    made = map-append (cell_of a.keys) a.cells.items (d ∷ []) ∙ (λ i. now-is i ++ record { name = d.name; kind = d.kind; props = named a.keys (none i) } ∷ [])

    pub whole-made : kind_needs d.kind ≤ count h.now → ((i : ℕ) → slice_get (names_of h.now) i ≡ Some d.name → ⊥) → IsWhole (stored a.keys (a.cells.items ++ d ∷ []))
    whole-made kind fresh = subst IsWhole (sym made) (whole-pushed h.now (record { name = d.name; kind = d.kind; props = [] }) whole-told kind refl fresh)

pub on-err : {A E P : Type 0} (r : Result A E) → P → OnErr r P
on-err (Ok a) p = tt
on-err (Err e) p = p

pub both : {A : Type 0} (o : Option A) → IsSome o → o ≡ None → ⊥
both o some none = true≢false (sym some ∙ ap is_some none)

-- a value that was lent
pub exists-read : (n : ℕ) (r : Option (Bor Value)) (o : Option Value) → option_copied r ≡ o → ((v : Value) → o ≡ Some v → needs v ≤ n) → IfSome r (λ v. needs v.now ≤ n)
exists-read n None o e all = tt
exists-read n (Some v) o e all = all v.now (sym e)

-- a key that was lent for a number
pub key-read : (keys : List Key) (n : ℕ) (r : Option (Bor Key)) → HasNumber keys (key_in keys n) n → IfSome r (λ k. HasNumber keys k.now n) → IfNone r (NamesNone keys n) → option_copied r ≡ Some (key_in keys n)
key-read keys n None h some none = absurd (none.none (key_in keys n) h)
key-read keys n (Some k) h some none = ap Some (sym (text_is keys k.now n some))

-- ---- marks

abbrev pub AllKept : List Key → List (List CellData) → Type 0
AllKept keys past = (i : ℕ) (ds : List CellData) → slice_get past i ≡ Some ds → AreKept keys ds

module _ (keys : List Key) (all first : List (List CellData)) (last : List CellData) (is : all ≡ first ++ last ∷ []) (kept : AllKept keys all) where
  pub last-kept : AreKept keys last
  last-kept = kept (length first) last (ap (λ l. slice_get l (length first)) is ∙ get_last first last)

  pub first-kept : AllKept keys first
  first-kept i ds e = kept i ds (ap (λ l. slice_get l i) is ∙ get_front first (last ∷ []) i ds e)

-- what stays where the history has more steps and the same marks
module _ (a : Inside) (good : IsGood a) (ss : List Step) (ps : List Point) (same : ps ≡ a.history.marks.items) where
  pub nested-more : length a.history.steps.items ≤ length ss → AreNested (length ss) ps
  nested-more more = subst (AreNested (length ss)) (sym same) (record { fewer = λ i p e. let h = good.nested.fewer i p e in omega (arith, h, more); later = good.nested.later })

  pub within-more : (n : ℕ) → length a.cells.items ≤ n → (i : ℕ) (p : Point) → slice_get ps i ≡ Some p → p.cells ≤ n
  within-more n long i p e = let h = good.within i p (ap (λ l. slice_get l i) (sym same) ∙ e) in omega (arith, h, long)

  pub kept-same : (ds : List CellData) → befores ss ps ds ≡ past a → AllKept a.keys (befores ss ps ds)
  kept-same ds e = subst (AllKept a.keys) (sym e) good.marks

pub good-changed : (a : Inside) → IsGood a → (v : Vec CellData Global) (h : History) → AreKept a.keys v.items → befores h.steps.items h.marks.items v.items ≡ past a → h.marks.items ≡ a.history.marks.items
    → length a.history.steps.items ≤ length h.steps.items → length a.cells.items ≤ length v.items → IsGood (record a { cells = v; history = h })
good-changed a good v h kept same marks more long = record {
  now = kept;
  marks = kept-same a good h.steps.items h.marks.items marks v.items same;
  distinct = good.distinct;
  nested = nested-more a good h.steps.items h.marks.items marks more;
  within = within-more a good h.steps.items h.marks.items marks (length v.items) long;
}

-- what stays where the history has the same steps and marks
module _ (a : Inside) (good : IsGood a) (h : History) (steps : h.steps.items ≡ a.history.steps.items) (marks : h.marks.items ≡ a.history.marks.items) where
  past-same : befores h.steps.items h.marks.items a.cells.items ≡ past a
  past-same = λ i. befores (steps i) (marks i) a.cells.items

  pub good-same : IsGood (record a { history = h })
  good-same = good-changed a good a.cells h good.now past-same marks (let e = ap length steps in omega (arith, e)) (omega arith)

  pub seen-same : held (record a { history = h }) ≡ held a
  seen-same = λ i. record { now = stored a.keys a.cells.items; marks = map (stored a.keys) (past-same i) }

-- a mark is set
past-marked : (a : Inside) (h : History) → h.steps.items ≡ a.history.steps.items → h.marks.items ≡ a.history.marks.items ++ now-point a.history.steps.items a.history.marks.items a.cells.items ∷ []
    → befores h.steps.items h.marks.items a.cells.items ≡ past a ++ a.cells.items ∷ []
past-marked a h steps marks = (λ i. befores (steps i) (marks i) a.cells.items) ∙ opened a.history.steps.items a.history.marks.items a.cells.items

pub good-marked : (a : Inside) → IsGood a → (h : History) → h.steps.items ≡ a.history.steps.items → h.marks.items ≡ a.history.marks.items ++ now-point a.history.steps.items a.history.marks.items a.cells.items ∷ []
    → IsGood (record a { history = h })
good-marked a good h steps marks = record {
  now = good.now;
  marks = subst (AllKept a.keys) (sym (past-marked a h steps marks)) (pushed (λ i ds. AreKept a.keys ds) (past a) a.cells.items good.marks good.now);
  distinct = good.distinct;
  nested = subst (AreNested (length h.steps.items)) (sym marks) (subst (λ ss. AreNested (length ss) (a.history.marks.items ++ now-point a.history.steps.items a.history.marks.items a.cells.items ∷ [])) (sym steps)
      (nested-open a.history.steps.items a.history.marks.items a.cells.items good.nested good.within));
  within = λ i p e. pushed (λ i p. p.cells ≤ length a.cells.items) a.history.marks.items (now-point a.history.steps.items a.history.marks.items a.cells.items) good.within (omega arith) i p (ap (λ l. slice_get l i) (sym marks) ∙ e);
}

pub set-long : (ds : List CellData) (i : ℕ) (d : CellData) → length (set ds i d) ≡ length ds
set-long [] i d = refl
set-long (c ∷ ds) zero d = refl
set-long (c ∷ ds) (suc i) d = ap suc (set-long ds i d)

-- the newest mark is closed
module _ (a : Inside) (good : IsGood a) (ps : List Point) (q : Point) (is : a.history.marks.items ≡ ps ++ q ∷ []) where
  abbrev pub then : List CellData
  then = before a.history.steps.items a.cells.items q

  past-is : past a ≡ befores a.history.steps.items ps a.cells.items ++ then ∷ []
  past-is = given-back a.history.steps.items a.history.marks.items ps q a.cells.items good.nested is

  front-kept : AllKept a.keys (befores a.history.steps.items ps a.cells.items)
  front-kept = first-kept a.keys (past a) (befores a.history.steps.items ps a.cells.items) then past-is good.marks

  then-long : length then ≡ q.cells
  then-long = length-undone (drop q.steps a.history.steps.items) (take q.cells a.cells.items)
      ∙ length-take q.cells a.cells.items (good.within (length ps) q (ap (λ l. slice_get l (length ps)) is ∙ get_last ps q))

  module _ (h : History) (marks : h.marks.items ≡ ps) (nested : AreNested (length h.steps.items) h.marks.items) where
    pub good-kept : ((ds : List CellData) → befores h.steps.items h.marks.items ds ≡ befores a.history.steps.items ps ds) → IsGood (record a { history = h })
    good-kept same = record {
      now = good.now;
      marks = subst (AllKept a.keys) (sym (same a.cells.items)) front-kept;
      distinct = good.distinct;
      nested = nested;
      within = λ i p e. good.within i p (p-at a.history.steps.items a.history.marks.items ps q a.cells.items good.nested is i p (ap (λ l. slice_get l i) (sym marks) ∙ e));
    }

    module _ (v : Vec CellData Global) (back : v.items ≡ then) (same : (ds : List CellData) → befores h.steps.items h.marks.items ds ≡ befores (take q.steps a.history.steps.items) ps ds) where
      same-past : befores h.steps.items h.marks.items v.items ≡ befores a.history.steps.items ps a.cells.items
      same-past = same v.items ∙ ap (befores (take q.steps a.history.steps.items) ps) back ∙ taken a.history.steps.items a.history.marks.items ps q a.cells.items good.nested is

      pub good-taken : IsGood (record a { cells = v; history = h })
      good-taken = record {
        now = subst (AreKept a.keys) (sym back) (last-kept a.keys (past a) (befores a.history.steps.items ps a.cells.items) then past-is good.marks);
        marks = subst (AllKept a.keys) (sym same-past) front-kept;
        distinct = good.distinct;
        nested = nested;
        within = λ i p e.
            let o = (ordered a.history.steps.items a.history.marks.items ps q a.cells.items good.nested is i p (ap (λ l. slice_get l i) (sym marks) ∙ e)).0 in let long = ap length back in
            omega (arith, o, long, then-long);
      }

      pub seen-taken : map (stored a.keys) (past a) ≡ map (stored a.keys) (befores h.steps.items h.marks.items v.items) ++ stored a.keys v.items ∷ []
      seen-taken = ap (map (stored a.keys)) past-is ∙ map-append (stored a.keys) (befores a.history.steps.items ps a.cells.items) (then ∷ [])
          ∙ (λ i. map (stored a.keys) (sym same-past i) ++ stored a.keys (sym back i) ∷ [])

-- the mark that was taken out of the list
pub popped : (all ps : List Point) (o : Option Point) → all ≡ ps ++ option_to_list o → IsSome o → (q : Point) × (all ≡ ps ++ q ∷ [])
popped all ps (Some q) e some = (q, e)
popped all ps None e some = absurd (true≢false (sym some))

-- as many marks are open as a contract sees
pub marks-long : (a : Inside) (h : Held) → held a ≡ h → length h.marks ≡ length a.history.marks.items
marks-long a h view = ap (λ h. length h.marks) (sym view) ∙ length-map (past a) (stored a.keys) ∙ length-map a.history.marks.items (before a.history.steps.items a.cells.items)

-- no mark was open
pub no-marks : (a : Inside) (h : Held) → held a ≡ h → h.marks ≡ [] → a.history.marks.items ≡ []
no-marks a h view none = by a.history.marks.items (ap (λ h. h.marks) view ∙ none)
  where
    by : (ps : List Point) → map (stored a.keys) (befores a.history.steps.items ps a.cells.items) ≡ [] → ps ≡ []
    by [] e = refl
    by (p ∷ ps) e = cc

-- ---- more keys

kept-more : (old new : List Key) → Grows old new → (ds : List CellData) → AreKept old ds → AreKept new ds
kept-more old new g ds h = record { whole = subst IsWhole (sym (stored_more old new g ds h.numbers)) h.whole; numbers = all_more old new g ds h.numbers }

past-more : (old new : List Key) → Grows old new → (all : List (List CellData)) → AllKept old all → map (stored new) all ≡ map (stored old) all
past-more old new g [] h = refl
past-more old new g (ds ∷ all) h = λ i. stored_more old new g ds (h 0 ds refl).numbers i ∷ past-more old new g all (λ j. h (suc j)) i

-- they leave what a contract sees
module _ (a : Inside) (good : IsGood a) (keys : List Key) (grows : Grows a.keys keys) where
  pub same-seen : held (record a { keys = keys }) ≡ held a
  same-seen = λ i. record { now = stored_more a.keys keys grows a.cells.items good.now.numbers i; marks = past-more a.keys keys grows (past a) good.marks i }

  pub good-more : AreDistinct keys → IsGood (record a { keys = keys })
  good-more distinct = record {
    now = kept-more a.keys keys grows a.cells.items good.now;
    marks = λ i ds e. kept-more a.keys keys grows ds (good.marks i ds e);
    distinct = distinct;
    nested = good.nested;
    within = good.within;
  }
