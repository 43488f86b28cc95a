-- What an append leaves stands for the entries before it, with the new one or without.
use Rattle.std.proofs.Common.{◌≡◌, ◌≢◌, ◌⊎◌, inl, inr, ⊎_elim, ℕ, ◌+◌, ◌^◌, ◌<◌, ◌≤◌, List, [], ◌∷◌, ◌++◌, length, get_or, take, drop, Result, refl, sym, ◌∙◌, ap, subst, arith, append_assoc, length-append, take-append-drop}
use Rattle.std.proofs.lemmas.Bool.{cases_eq}
use Rattle.std.proofs.lemmas.List.{take_at, drop_at, drop_more}
use Rattle.disk_model.specs.Disk.{Holds, Torn, LeavesOnly}
use Rattle.gate_log.specs.Append.{Appends}
use Rattle.gate_log.specs.Log.{size_bytes, framed, blocks, AreShort, IsGated, WithOrWithout}
use Rattle.gate_log.proofs.Blocks.{blocks-append}

pub short-push : (es : List (List ℕ)) (e : List ℕ) → AreShort es → length e < 2 ^ 32 → AreShort (es ++ e ∷ [])
short-push [] e short small = (small, tt)
short-push (f ∷ es) e short small = (short.0, short-push es e short.1 small)

module _ (es : List (List ℕ)) (e : List ℕ) (small : length e < 2 ^ 32) (n : ℕ) (size : n ≡ length (blocks es)) (gate : ℕ) (rest : List ℕ) (short : AreShort es) (closed : gate ≢ 165) where
  abbrev file : List ℕ
  file = blocks es ++ gate ∷ rest

  file_split : file ≡ (blocks es ++ gate ∷ []) ++ rest
  file_split = sym (append_assoc (blocks es) (gate ∷ []) rest)

  front_size : length (blocks es ++ gate ∷ []) ≡ n + 1
  front_size = omega (arith, length-append (blocks es) (gate ∷ []))

  front : take (n + 1) file ≡ blocks es ++ gate ∷ []
  front = ap (λ (l : List ℕ). take (n + 1) l) file_split ∙ take_at (blocks es ++ gate ∷ []) rest (n + 1) front_size

  -- a torn write behind the gate
  pub torn_behind : (m : ℕ) (c : List ℕ) → Torn (n + 1) m file c → IsGated c es
  torn_behind m c torn =
      (gate, drop (n + 1) c, short, closed, sym (take-append-drop (n + 1) c) ∙ ap (λ (l : List ℕ). l ++ drop (n + 1) c) (torn.before ∙ front) ∙ append_assoc (blocks es) (gate ∷ []) (drop (n + 1) c))

  -- the file with the bytes behind the gate
  pub staged_is : (d : List ℕ) → Holds (n + 1) (framed e) file d → d ≡ blocks es ++ (gate ∷ (framed e ++ drop (n + 1 + length (framed e)) file))
  staged_is d holds =
      let past : List ℕ = drop (n + 1 + length (framed e)) file in
      holds ∙ append_assoc (take (n + 1) file) (framed e) past ∙ ap (λ (l : List ℕ). l ++ (framed e ++ past)) front ∙ append_assoc (blocks es) (gate ∷ []) (framed e ++ past)

  abbrev tail : List ℕ
  tail = drop (n + 1 + length (framed e)) file

  whole : (g : ℕ) → g ≡ 165 → blocks es ++ (g ∷ (framed e ++ tail)) ≡ blocks (es ++ e ∷ []) ++ 0 ∷ tail
  whole g is =
      ap (λ (x : ℕ). blocks es ++ (x ∷ (framed e ++ tail))) is ∙ ap (λ (l : List ℕ). blocks es ++ (165 ∷ l)) (append_assoc (size_bytes (length e)) (e ++ 0 ∷ []) tail ∙ ap (λ (l : List ℕ). size_bytes (length e) ++ l) (append_assoc e (0 ∷ []) tail)) ∙ sym (blocks-append es e (0 ∷ tail))

  shut : ◌≢◌ {A = ℕ} 0 165
  shut = omega arith

  size2 : length (blocks es) ≡ n
  size2 = sym size

  -- a torn gate
  pub torn_gate : (d c : List ℕ) → Holds (n + 1) (framed e) file d → Torn n 1 d c → WithOrWithout es e c
  torn_gate d c holds torn =
      let staged = staged_is d holds in
      let g = get_or c n 0 in
      let long : n + 1 ≤ length d = omega (arith, ap length staged, length-append (blocks es) (gate ∷ (framed e ++ tail))) in
      let before : take n c ≡ blocks es = torn.before ∙ ap (λ (l : List ℕ). take n l) staged ∙ take_at (blocks es) (gate ∷ (framed e ++ tail)) n size2 in
      let after : drop (n + 1) d ≡ framed e ++ tail = ap (λ (l : List ℕ). drop (n + 1) l) (staged ∙ sym (append_assoc (blocks es) (gate ∷ []) (framed e ++ tail))) ∙ drop_at (blocks es ++ gate ∷ []) (framed e ++ tail) (n + 1) front_size in
      let rest_is : drop n c ≡ g ∷ (framed e ++ tail) = drop_more c n 0 (omega (arith, torn.no_shorter)) ∙ ap (λ (l : List ℕ). g ∷ l) (torn.after ∙ after) in
      let is : c ≡ blocks es ++ (g ∷ (framed e ++ tail)) = sym (take-append-drop n c) ∙ ap (λ (l : List ℕ). l ++ drop n c) before ∙ ap (λ (l : List ℕ). blocks es ++ l) rest_is in
      elim (cases_eq g 165) [
        | inl open_gate ↦ inr (0, tail, short-push es e short small, shut, is ∙ whole g open_gate)
        | inr other ↦ inl (g, framed e ++ tail, short, other, is)
      ]

  -- the gate open
  pub opened : (d c : List ℕ) → Holds (n + 1) (framed e) file d → Holds n (165 ∷ []) d c → IsGated c (es ++ e ∷ [])
  opened d c holds gate_holds =
      let staged = staged_is d holds in
      let before : take n d ≡ blocks es = ap (λ (l : List ℕ). take n l) staged ∙ take_at (blocks es) (gate ∷ (framed e ++ tail)) n size2 in
      let after : drop (n + 1) d ≡ framed e ++ tail = ap (λ (l : List ℕ). drop (n + 1) l) (staged ∙ sym (append_assoc (blocks es) (gate ∷ []) (framed e ++ tail))) ∙ drop_at (blocks es ++ gate ∷ []) (framed e ++ tail) (n + 1) front_size in
      (0, tail, short-push es e short small, shut, gate_holds ∙ append_assoc (take n d) (165 ∷ []) (drop (n + 1) d) ∙ ap (λ (l : List ℕ). l ++ (165 ∷ drop (n + 1) d)) before ∙ ap (λ (l : List ℕ). blocks es ++ (165 ∷ l)) after ∙ whole 165 refl)

-- each moment of an append
pub moments : {T D E : Type 0} (bytes : D → List ℕ) (moment : D → ℕ) (left_since : D → ℕ → List ℕ → Type 0) (es : List (List ℕ)) (e : List ℕ) (gate : ℕ) (out : List ℕ) → length e < 2 ^ 32 → gate ≡ length (blocks es) → out ≡ framed e → (old new : D) (result : Result T E)
    → IsGated (bytes old) es → ((c : List ℕ) → left_since old (moment old) c → c ≡ bytes old) → Appends bytes moment left_since gate out old new result → LeavesOnly moment left_since old new (WithOrWithout es e)
moments bytes moment left_since es e gate out small size spelt old new result holds only appends =
    let l = appends.any_moment only in
    let file_is = holds.4 in
    let each : (c : List ℕ) → (Torn (gate + 1) (length out) (bytes old) c ⊎ ((d : List ℕ) × Holds (gate + 1) out (bytes old) d × Torn gate 1 d c)) → WithOrWithout es e c = λ c h. ⊎_elim
    (λ (torn : Torn (gate + 1) (length out) (bytes old) c). inl (torn_behind es e small gate size holds.0 holds.1 holds.2 holds.3 (length out) c (subst (λ (f : List ℕ). Torn (gate + 1) (length out) f c) file_is torn)))
    (λ (w : (d : List ℕ) × Holds (gate + 1) out (bytes old) d × Torn gate 1 d c). torn_gate es e small gate size holds.0 holds.1 holds.2 holds.3 w.0 c (subst (λ (o : List ℕ). Holds (gate + 1) o (blocks es ++ holds.0 ∷ holds.1) w.0) spelt (subst (λ (f : List ℕ). Holds (gate + 1) out f w.0) file_is w.1)) w.2)
    h in
    record { later = l.later; before = λ t c le left. ⊎_elim (λ h. inl h) (λ p. inr (each c p)) (l.before t c le left) }

-- the end of one that was answered
pub added : (es : List (List ℕ)) (e : List ℕ) (gate : ℕ) (out old new d : List ℕ) → length e < 2 ^ 32 → gate ≡ length (blocks es) → out ≡ framed e → IsGated old es → Holds (gate + 1) out old d → Holds gate (165 ∷ []) d new → IsGated new (es ++ e ∷ [])
added es e gate out old new d small size spelt holds staged open_gate =
    opened es e small gate size holds.0 holds.1 holds.2 holds.3 d new (subst (λ (o : List ℕ). Holds (gate + 1) o (blocks es ++ holds.0 ∷ holds.1) d) spelt (subst (λ (f : List ℕ). Holds (gate + 1) out f d) holds.4 staged)) open_gate
