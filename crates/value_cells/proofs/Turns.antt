-- How a program's steps follow from what the calls on a heap did: one lemma for a call that answered, and one for a call that ended
-- the run.
use Rattle.std.proofs.lemmas.Option.{slice_get_within, slice_get-get_or}
use Rattle.std.proofs.lemmas.Bool.Decides.{nat_tests}
use Rattle.std.proofs.Common.{◌≡◌, ◌∙◌, subst, refl, sym, ap, ℕ, ◌≤◌, ◌<◌, Bool, true, false, nat_lt, List, [], ◌∷◌, length, get_or, Some, slice_get, arith}
use Rattle.turk_base.specs.Names.{Name, Under, home}
use Rattle.turk_base.specs.Values.{Refusal, Outcome}
use Rattle.turk_base.specs.State.{St}
use Rattle.turk_base.specs.Steps.{steps_of}
use Rattle.turk_base.specs.Prog.{Prim, AnswerOf, Prog, Done, Ask, refuse}
use Rattle.value_cells.specs.declared.OpStop.{OpStop}
use Rattle.value_cells.specs.declared.OpStop.TheVariants.{NotWhole, NoPrimitive, TooLong, Spent, Memory}
use Rattle.value_cells.specs.Seen.{Naming, Seen, Fits, Grows, count}
use Rattle.value_cells.specs.Comes.{Comes, goes, then_goes, comes, ends}
use Rattle.value_cells.specs.Does.{Says, Refuses, Fails, told_stop, Did, Stays, comes_from, ends_from, Does, Runs, Onward}

pub fits_before : (nu : Naming) (old new : List Name) → Grows old new → Fits nu new → Fits nu old
fits_before nu old new g f = record { agrees = λ i n e. f.agrees i n (g i n e) }

-- a list that another begins with is no longer
pub grows_length : (xs ys : List Name) → Grows xs ys → length xs ≤ length ys
grows_length [] ys g = omega arith
grows_length (x ∷ xs) ys g =
    let last : slice_get (x ∷ xs) (length xs) ≡ Some (get_or (x ∷ xs) (length xs) x) = slice_get-get_or (x ∷ xs) (length xs) x (omega arith) in
    slice_get_within ys (length xs) (get_or (x ∷ xs) (length xs) x) (g (length xs) (get_or (x ∷ xs) (length xs) x) last)

there : (xs : List Name) (i : ℕ) → i < length xs → (n : Name) × (slice_get xs i ≡ Some n)
there [] i h = absurd (omega arith)
there (x ∷ xs) i h = (get_or (x ∷ xs) i x, slice_get-get_or (x ∷ xs) i x h)

pub stays_same : (s : Seen) → Stays s s
stays_same s = record {
  scope = refl;
  outer = refl;
  grows = λ i n e. e;
  below = λ i n e l. let h : i < length s.names = slice_get_within s.names i n e in absurd (omega arith);
}

pub stays_then : (s t u : Seen) → Stays s t → Stays t u → Stays s u
stays_then s t u g h = record {
  scope = h.scope ∙ g.scope;
  outer = h.outer ∙ g.outer;
  grows = λ i n e. h.grows i n (g.grows i n e);
  below = λ i n e l. by i n e l (nat_lt i (count t)) refl;
}
  where
    by : (i : ℕ) (n : Name) → slice_get u.names i ≡ Some n → count s ≤ i → (b : Bool) → nat_lt i (count t) ≡ b → Under s.scope.path (home n)
    by i n e l true w =
        let x = there t.names i (grind (arith, nat_tests)) in
        let same : Some n ≡ Some x.0 = sym e ∙ h.grows i x.0 x.1 in
        let is : x.0 ≡ n = cc in
        subst (λ n. Under s.scope.path (home n)) is (g.below i x.0 x.1 l)
    by i n e l false w =
        subst (λ c. Under c.path (home n)) g.scope (h.below i n e (grind (arith, nat_tests)))

-- a request was answered
ask_is : (p : Prim) (go : AnswerOf p → Prog) (nu : Naming) (s t : Seen) (a : AnswerOf p) → t.scope ≡ s.scope → comes_from (steps_of p) nu s ≡ goes a (t.first nu) t.left
    → ends_from (Ask p go) nu s ≡ ends_from (go a) nu t
unfolding ends
ask_is p go nu s t a same did =
    ap (λ r. then_goes r (λ a τ m. ends (go a) s.scope.path s.scope.branch s.scope.body τ m)) did
    ∙ ap (λ c. ends (go a) c.path c.branch c.body (t.first nu) t.left) (sym same)

pub asks : {p : Naming → Prim} {a : (nu : Naming) → AnswerOf (p nu)} {go : (nu : Naming) → AnswerOf (p nu) → Prog} {s t : Seen}
    → Does p (λ nu. Says (a nu)) s t → Onward (λ nu. Ask (p nu) (go nu)) (λ nu. go nu (a nu)) s t
asks {p} {a} {go} {s} {t} first = record {
  goes = λ said last rest. record {
    stays = stays_then s t last first.stays rest.stays;
    ran = λ nu fits. subst (λ r. Did r (said nu) (last.first nu) last.left)
        (sym (ask_is (p nu) (go nu) nu s t (a nu) first.stays.scope (first.did nu (fits_before nu t.names last.names rest.stays.grows fits)))) (rest.ran nu fits);
  };
}

-- a request ended the run
out_as : {A B : Type 0} (r : Comes A) (k : A → St → ℕ → Comes B) (e : OpStop) (τ : St) (n : ℕ) → Did r (told_stop e) τ n → Did (then_goes r k) (told_stop e) τ n
out_as r k NotWhole τ n h = ap (λ r. then_goes r k) h
out_as r k NoPrimitive τ n h = ap (λ r. then_goes r k) h
out_as r k TooLong τ n h = ap (λ r. then_goes r k) h
out_as r k Spent τ n h = (h.0, h.1, ap (λ r. then_goes r k) h.2, h.3)
out_as r k Memory τ n h = tt

pub asks_out : {p : Naming → Prim} {go : (nu : Naming) → AnswerOf (p nu) → Prog} {s t : Seen} (e : OpStop)
    → Does p (λ nu. told_stop e) s t → Runs (λ nu. Ask (p nu) (go nu)) (λ nu. told_stop e) s t
unfolding ends
asks_out {p} {go} {s} {t} e first = record {
  stays = first.stays;
  ran = λ nu fits. out_as (comes_from (steps_of (p nu)) nu s) (λ a τ m. ends (go nu a) s.scope.path s.scope.branch s.scope.body τ m) e (t.first nu) t.left (first.did nu fits);
}

-- one part of a program after another
pub onward_then : {f g h : Naming → Prog} {s t u : Seen} → Onward f g s t → Onward g h t u → Onward f h s u
onward_then x y = record { goes = λ said last rest. x.goes said last (y.goes said last rest) }

pub onward_same : {f : Naming → Prog} {s : Seen} → Onward f f s s
onward_same = record { goes = λ said last rest. rest }

-- the end of a program
pub ended : {o : Naming → Outcome} {s : Seen} → Runs (λ nu. Done (o nu)) (λ nu. Says (o nu)) s s
unfolding ends
ended {o} {s} = record { stays = stays_same s; ran = λ nu fits. refl }

-- it is refused, where nothing was done
pub refused : {why : Refusal} {s : Seen} → Runs (λ nu. refuse why) (λ nu. Refuses why) s s
unfolding ends comes steps_of
refused {why} {s} = record { stays = stays_same s; ran = λ nu fits. refl }

-- want of memory
pub failed : {f : Naming → Prog} {s : Seen} → Runs f (λ nu. Fails) s s
failed {f} {s} = record { stays = stays_same s; ran = λ nu fits. tt }
