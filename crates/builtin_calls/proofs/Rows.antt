-- The built-in calls by their numbers, and the prototypes by theirs.
use Rattle.std.proofs.Common.{◌≡◌, ◌∙◌, subst, refl, sym, ap, ℕ, zero, suc, ◌+◌, ◌-◌, ◌<◌, ◌≤◌, List, [], ◌∷◌, length, None, slice_get, Result, Ok, Err, arith, IsErrAnd, codes}
use Rattle.std.proofs.lemmas.Option.{slice_get_within}
use Rattle.turk_base.specs.Names.{Name, root, cell, Units}
use Rattle.turk_base.specs.Values as model
use Rattle.turk_base.specs.Values.{Val, Outcome}
use Rattle.turk_base.specs.Prog.{Prog}
use Rattle.turk_base.specs.Errors.{built_in, not_a_function}
use Rattle.turk_base.specs.BuiltIns as spec
use Rattle.turk_base.specs.BuiltIns.{call_built_in, argument}
use Rattle.value_cells.specs.declared.Value.{Value}
use Rattle.value_cells.specs.declared.Value.TheVariants as code
use Rattle.value_cells.specs.declared.OpStop.{OpStop}
use Rattle.value_cells.specs.declared.OpStop.TheVariants as heap
use Rattle.value_cells.specs.Seen.{Naming, Seen, Fits, val_in, count}
use Rattle.value_cells.specs.Does.{Told, Did, Runs, ends_from, told_stop}
use Rattle.value_cells.proofs.Turns.{fits_before, failed}
use Rattle.builtin_calls.proofs.Moves.{onward_eq}
use Rattle.builtin_calls.specs.declared.CallStop.TheVariants.{Throw, Memory}
use Rattle.builtin_calls.specs.declared.CallStop.{CallStop}
use Rattle.builtin_calls.specs.Called.{Called, call_stop, HasBuiltIns}

-- one program is another where the naming fits the cells
pub runs_under : {f g : Naming → Prog} {said : Naming → Told Outcome} {s t : Seen} → ((nu : Naming) → Fits nu s.names → f nu ≡ g nu) → Runs g said s t → Runs f said s t
runs_under {f} {g} {said} {s} {t} e r = record {
  stays = r.stays;
  ran = λ nu fits. subst (λ p. Did (ends_from p nu s) (said nu) (t.first nu) t.left) (sym (e nu (fits_before nu s.names t.names r.stays.grows fits))) (r.ran nu fits);
}

-- ---- arrays

pub row_push : (w : ℕ) (a : Name) (args : List Val) → w ≡ 0 → call_built_in w (model.Object a) args ≡ spec.push a args
unfolding call_built_in
row_push w a args e = ap (λ w. call_built_in w (model.Object a) args) e

pub row_pop : (w : ℕ) (a : Name) (args : List Val) → w ≡ 1 → call_built_in w (model.Object a) args ≡ spec.pop a
unfolding call_built_in
row_pop w a args e = ap (λ w. call_built_in w (model.Object a) args) e

pub row_join : (w : ℕ) (a : Name) (args : List Val) (v : Val) → w ≡ 2 → argument 0 args ≡ v → call_built_in w (model.Object a) args ≡ spec.join a v
unfolding call_built_in
row_join w a args v e f = ap (λ w. call_built_in w (model.Object a) args) e ∙ ap (spec.join a) f

pub row_concat : (w : ℕ) (a : Name) (args : List Val) → w ≡ 3 → call_built_in w (model.Object a) args ≡ spec.concat a args
unfolding call_built_in
row_concat w a args e = ap (λ w. call_built_in w (model.Object a) args) e

pub row_slice : (w : ℕ) (a : Name) (args : List Val) (v x : Val) → w ≡ 4 → argument 0 args ≡ v → argument 1 args ≡ x → call_built_in w (model.Object a) args ≡ spec.slice a v x
unfolding call_built_in
row_slice w a args v x e f g = ap (λ w. call_built_in w (model.Object a) args) e ∙ (λ j. spec.slice a (f j) (g j))

pub row_reverse : (w : ℕ) (a : Name) (args : List Val) → w ≡ 5 → call_built_in w (model.Object a) args ≡ spec.reverse_row a
unfolding call_built_in
row_reverse w a args e = ap (λ w. call_built_in w (model.Object a) args) e

-- ---- texts

pub row_char_at : (w : ℕ) (t : Units) (args : List Val) (v : Val) → w ≡ 6 → argument 0 args ≡ v → call_built_in w (model.Text t) args ≡ spec.char_at t v
unfolding call_built_in
row_char_at w t args v e f = ap (λ w. call_built_in w (model.Text t) args) e ∙ ap (spec.char_at t) f

pub row_char_code_at : (w : ℕ) (t : Units) (args : List Val) (v : Val) → w ≡ 7 → argument 0 args ≡ v → call_built_in w (model.Text t) args ≡ spec.char_code_at t v
unfolding call_built_in
row_char_code_at w t args v e f = ap (λ w. call_built_in w (model.Text t) args) e ∙ ap (spec.char_code_at t) f

pub row_index_of : (w : ℕ) (t : Units) (args : List Val) (v x : Val) → w ≡ 8 → argument 0 args ≡ v → argument 1 args ≡ x → call_built_in w (model.Text t) args ≡ spec.index_of t v x
unfolding call_built_in
row_index_of w t args v x e f g = ap (λ w. call_built_in w (model.Text t) args) e ∙ (λ j. spec.index_of t (f j) (g j))

pub row_substring : (w : ℕ) (t : Units) (args : List Val) (v x : Val) → w ≡ 9 → argument 0 args ≡ v → argument 1 args ≡ x → call_built_in w (model.Text t) args ≡ spec.substring t v x
unfolding call_built_in
row_substring w t args v x e f g = ap (λ w. call_built_in w (model.Text t) args) e ∙ (λ j. spec.substring t (f j) (g j))

pub row_split : (w : ℕ) (t : Units) (args : List Val) (v : Val) → w ≡ 10 → argument 0 args ≡ v → call_built_in w (model.Text t) args ≡ spec.split t v
unfolding call_built_in
row_split w t args v e f = ap (λ w. call_built_in w (model.Text t) args) e ∙ ap (spec.split t) f

-- ---- calls that look at their arguments alone

pub row_from_char_code : (w : ℕ) (this : Val) (args : List Val) → w ≡ 11 → call_built_in w this args ≡ spec.from_char_code args
unfolding call_built_in
row_from_char_code w this args e = ap (λ w. call_built_in w this args) e

pub row_string_of : (w : ℕ) (this : Val) (args : List Val) → w ≡ 12 → call_built_in w this args ≡ spec.string_of args
unfolding call_built_in
row_string_of w this args e = ap (λ w. call_built_in w this args) e

pub row_error : (w : ℕ) (this : Val) (args : List Val) (p : Name) (v : Val) → w ≡ 13 → built_in 1 ≡ p → argument 0 args ≡ v → call_built_in w this args ≡ spec.error_of p v
unfolding call_built_in
row_error w this args p v e n f = ap (λ w. call_built_in w this args) e ∙ (λ j. spec.error_of (n j) (f j))

pub row_type_error : (w : ℕ) (this : Val) (args : List Val) (p : Name) (v : Val) → w ≡ 14 → built_in 3 ≡ p → argument 0 args ≡ v → call_built_in w this args ≡ spec.error_of p v
unfolding call_built_in
row_type_error w this args p v e n f = ap (λ w. call_built_in w this args) e ∙ (λ j. spec.error_of (n j) (f j))

pub row_reference_error : (w : ℕ) (this : Val) (args : List Val) (p : Name) (v : Val) → w ≡ 15 → built_in 5 ≡ p → argument 0 args ≡ v → call_built_in w this args ≡ spec.error_of p v
unfolding call_built_in
row_reference_error w this args p v e n f = ap (λ w. call_built_in w this args) e ∙ (λ j. spec.error_of (n j) (f j))

-- ---- the built-in cells

pub built_in_at : (s : Seen) (nu : Naming) (i : ℕ) → HasBuiltIns s → Fits nu s.names → i < 7 → built_in i ≡ nu i
built_in_at s nu i has fits h = sym (fits.agrees i (cell root i) (has.named i h))

pub built_in_there : (s : Seen) (i : ℕ) → HasBuiltIns s → i < 7 → i < count s
built_in_there s i has h = slice_get_within s.names i (cell root i) (has.named i h)

-- ---- no call of the value: an array's, a text's, none at all

off_array : (row : Name → List Val → Prog) (v : Value) → ((i : ℕ) → v ≡ code.Object i → ⊥) → (nu : Naming) (args : List Val) → spec.on_array row (val_in nu v) args ≡ not_a_function
off_array row code.Undefined n nu args = refl
off_array row code.Null n nu args = refl
off_array row (code.Truth b) n nu args = refl
off_array row (code.Number z) n nu args = refl
off_array row (code.Text t) n nu args = refl
off_array row (code.Object i) n nu args = absurd (n i refl)

off_text : (row : Units → List Val → Prog) (v : Value) → ((t : Units) → v ≡ code.Text t → ⊥) → (nu : Naming) (args : List Val) → spec.on_text row (val_in nu v) args ≡ not_a_function
off_text row code.Undefined n nu args = refl
off_text row code.Null n nu args = refl
off_text row (code.Truth b) n nu args = refl
off_text row (code.Number z) n nu args = refl
off_text row (code.Text t) n nu args = absurd (n t refl)
off_text row (code.Object i) n nu args = refl

pub no_array : (w : ℕ) → w < 6 → (v : Value) → ((i : ℕ) → v ≡ code.Object i → ⊥) → (nu : Naming) (args : List Val) → call_built_in w (val_in nu v) args ≡ not_a_function
unfolding call_built_in
no_array zero h v n nu args = off_array (λ a args. spec.push a args) v n nu args
no_array (suc zero) h v n nu args = off_array (λ a args. spec.pop a) v n nu args
no_array (suc (suc zero)) h v n nu args = off_array (λ a args. spec.join a (argument 0 args)) v n nu args
no_array (suc (suc (suc zero))) h v n nu args = off_array (λ a args. spec.concat a args) v n nu args
no_array (suc (suc (suc (suc zero)))) h v n nu args = off_array (λ a args. spec.slice a (argument 0 args) (argument 1 args)) v n nu args
no_array (suc (suc (suc (suc (suc zero))))) h v n nu args = off_array (λ a args. spec.reverse_row a) v n nu args
no_array (suc (suc (suc (suc (suc (suc w)))))) h v n nu args = absurd (omega arith)

past : {A : Type 0} (xs : List A) (i : ℕ) → length xs ≤ i → slice_get xs i ≡ None
past [] i h = refl
past (x ∷ xs) zero h = absurd (omega arith)
past (x ∷ xs) (suc i) h = past xs i (omega arith)

text_row : (w : ℕ) (v : Value) → ((t : Units) → v ≡ code.Text t → ⊥) → (nu : Naming) (args : List Val) → w < 5 → call_built_in (6 + w) (val_in nu v) args ≡ not_a_function
unfolding call_built_in
text_row zero v n nu args h = off_text (λ t args. spec.char_at t (argument 0 args)) v n nu args
text_row (suc zero) v n nu args h = off_text (λ t args. spec.char_code_at t (argument 0 args)) v n nu args
text_row (suc (suc zero)) v n nu args h = off_text (λ t args. spec.index_of t (argument 0 args) (argument 1 args)) v n nu args
text_row (suc (suc (suc zero))) v n nu args h = off_text (λ t args. spec.substring t (argument 0 args) (argument 1 args)) v n nu args
text_row (suc (suc (suc (suc zero)))) v n nu args h = off_text (λ t args. spec.split t (argument 0 args)) v n nu args
text_row (suc (suc (suc (suc (suc w))))) v n nu args h = absurd (omega arith)

pub no_text : (w : ℕ) → 6 ≤ w → w < 11 → (v : Value) → ((t : Units) → v ≡ code.Text t → ⊥) → (nu : Naming) (args : List Val) → call_built_in w (val_in nu v) args ≡ not_a_function
no_text w g h v n nu args = let e : w ≡ 6 + (w - 6) = omega arith in ap (λ w. call_built_in w (val_in nu v) args) e ∙ text_row (w - 6) v n nu args (omega arith)

pub no_row : (w : ℕ) → 16 ≤ w → (this : Val) (args : List Val) → call_built_in w this args ≡ not_a_function
unfolding call_built_in
no_row w h this args = ap (λ r. spec.row_of r this args) (past spec.built_ins w h)

-- ---- the exit of a `?`

pub called_out : {f : Naming → Prog} {s t : Seen} (e : OpStop) (r : Result Value CallStop) → IsErrAnd r (λ x. x ≡ call_stop e) → Runs f (λ nu. told_stop e) s t → Called f r s t
called_out e (Ok v) m x = absurd m
called_out {f} {s} {t} heap.NotWhole (Err y) m x = subst (λ y. Called f (Err y) s t) (sym m) x
called_out {f} {s} {t} heap.NoPrimitive (Err y) m x = subst (λ y. Called f (Err y) s t) (sym m) x
called_out {f} {s} {t} heap.TooLong (Err y) m x = subst (λ y. Called f (Err y) s t) (sym m) x
called_out {f} {s} {t} heap.Spent (Err y) m x = subst (λ y. Called f (Err y) s t) (sym m) x
called_out {f} {s} {t} heap.Memory (Err y) m x = subst (λ y. Called f (Err y) s t) (sym m) x

-- ---- an error is thrown

pub thrown : {f : Naming → Prog} (s : Seen) (stop : CallStop) → stop ≡ Throw 0 (codes "not a function") → ((nu : Naming) → f nu ≡ not_a_function) → Called f (Err stop) s s
thrown {f} s stop e same = subst (λ x. Called f (Err x) s s) (sym e) (refl, onward_eq same)

pub lost : (f : Naming → Prog) (s : Seen) (r : Result Value CallStop) → IsErrAnd r (λ x. x ≡ Memory) → Called f r s s
lost f s r m = called_out heap.Memory r m failed
