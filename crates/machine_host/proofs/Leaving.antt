-- What holds where a scope was left.
use Rattle.std.specs.Prelude.{List, Bool, true, false, Some, IsSome, length, slice_get, Result, Ok, Err, OnOk}
use Rattle.std.proofs.Common.{◌≡◌, ◌<◌, ◌+◌, ℕ, zero, suc, length-append, refl, sym, ap, subst, ◌∙◌, arith, [], ◌∷◌, ◌++◌}
use Rattle.std.proofs.lemmas.Option.{slice_get_within}
use Rattle.turk_base.specs.Names.{Name}
use Rattle.turk_base.specs.Errors.{built_in}
use Rattle.turk_base.specs.Start.{start}
use Rattle.turk_base.specs.State.{St, join, join_scope, act, act_join, any_gone, leave}
use Rattle.turk_base.specs.Steps.{joined, steps_of}
use Rattle.turk_base.specs.Values.{Val}
use Rattle.value_cells.specs.Comes.{Comes, goes, stops, spends, other, then_goes, acted, comes}
use Rattle.value_cells.specs.Does.{Stays}
use Rattle.value_cells.specs.Seen.{Naming, Seen, Scope, Fits}
use Rattle.eval_ops.specs.Looks.{IsTold}
use Rattle.eval_ops.specs.Calls.{LeavesBack, LeavesKeep, Changes, join_from}
use Rattle.run_host.specs.Moment.{alone, Moment}
use Rattle.run_host.specs.declared.Exit.{Exit}
use Rattle.run_host.specs.declared.Exit.TheVariants.{Stopped}
use Rattle.ask_model.specs.declared.AskStop.TheVariants.{Memory}
use Rattle.machine_host.specs.Asking.{Loses}
use Rattle.machine_host.specs.Leaving.{LeftWith, joined_in}
use Rattle.machine_host.proofs.Halting.{free_comes}
use Rattle.run_host.proofs.Moments.{there, same_refl}
use Rattle.ask_model.specs.Asker.{Seen as Asked}
use Rattle.eval_ops.specs.Run.{seen_of}
use Rattle.machine_host.specs.declared.AskedRun.{AskedRun}
use Rattle.machine_host.specs.Moments.{moment_at}
use Rattle.machine_host.specs.Runs.{notes_of, moment_of}
use Rattle.machine_host.specs.Sound.{BacksKnow, IsGood, AreOpen}
use Rattle.machine_host.proofs.Turns.{naming}

some_same : {A : Type 0} {x y : A} → Some x ≡ Some y → x ≡ y
some_same e = cc

last_is : (es : List ℕ) (n : ℕ) → slice_get (es ++ n ∷ []) (length es) ≡ Some n
last_is [] n = refl
last_is (x ∷ es) n = last_is es n

still_there : (es : List ℕ) (n i k : ℕ) → slice_get es i ≡ Some k → slice_get (es ++ n ∷ []) i ≡ Some k
still_there [] n i k e = let z : ⊥ = cc in absurd z
still_there (x ∷ es) n zero k e = e
still_there (x ∷ es) n (suc i) k e = still_there es n i k e

-- the newest open scope has the count of those around it
pub newest : (es all : List ℕ) (n : ℕ) (outer : List Scope) → all ≡ es ++ n ∷ [] → AreOpen all outer → (n ≡ length outer) × (0 < length outer)
newest es all n outer e a =
    let q = a.counted (length es) n (ap (λ l. slice_get l (length es)) e ∙ last_is es n) in
    let m : length all ≡ length outer = a.many in
    let l : length all ≡ length es + 1 = ap length e ∙ length-append es (n ∷ []) in
    (omega (arith, q, m, l), omega (arith, m, l))

pub open_left : (es all : List ℕ) (n : ℕ) (outer rest : List Scope) (s : Scope) → all ≡ es ++ n ∷ [] → AreOpen all outer → outer ≡ s ∷ rest → AreOpen es rest
open_left es all n outer rest s e a is = record {
  many = (let m : length all ≡ length outer = a.many in let l : length all ≡ length es + 1 = ap length e ∙ length-append es (n ∷ []) in let k : length outer ≡ suc (length rest) = ap length is in omega (arith, m, l, k));
  counted = λ i k q. a.counted i k (ap (λ l. slice_get l i) e ∙ still_there es n i k q);
}

pub good_kept : (s t : Seen) → IsGood s → LeavesKeep s t → IsTold t → IsGood t
good_kept s t g e told = record {
  told = told;
  named = λ i l. ap (λ ns. slice_get ns i) e.names ∙ g.named i l;
  backs = (subst (BacksKnow s.scope) e.around g.backs).1;
}

pub good_back : (s t : Seen) → IsGood s → LeavesBack s t → IsTold t → IsGood t
good_back s t g e told = record { told = told; named = named; backs = (subst (BacksKnow s.scope) e.around g.backs).1 }
  where
    named : (i : ℕ) → i < 7 → slice_get t.names i ≡ Some (built_in i)
    named i l =
        let n = naming s.names in
        let mu = n.0 in
        let known = (subst (BacksKnow s.scope) e.around g.backs).0 mu (λ j k. n.1.agrees j (built_in j) (g.named j k)) i l in
        let h = told.only mu (built_in i) (subst (λ (σ : St). IsSome (σ.known (built_in i))) (sym (e.first mu)) known) in
        let f : (m : Name) × (slice_get t.names h.0 ≡ Some m) = there t.names h.0 h.1 in
        let ej = e.names h.0 f.0 f.1 in
        let q : f.0 ≡ built_in i = sym (n.1.agrees h.0 f.0 ej) ∙ h.2 in
        let same : h.0 ≡ i = g.told.apart h.0 i (built_in i) (ej ∙ ap Some q) (g.named i l) in
        subst (λ j. slice_get t.names j ≡ Some (built_in i)) same (f.1 ∙ ap Some q)

-- ---- a scope that was joined and left

pub ok_then : {A P Q : Type 0} (r : Result A Exit) → (P → Q) → OnOk r P → OnOk r Q
ok_then (Ok a) f h = f h
ok_then (Err y) f h = tt

abbrev state_of : Comes Val → St
state_of (goes a τ m) = τ
state_of (stops why τ m) = start
state_of (spends τ m) = start
state_of other = start

abbrev left_of : Comes Val → ℕ
left_of (goes a τ m) = m
left_of (stops why τ m) = 0
left_of (spends τ m) = 0
left_of other = 0

join_comes : (s : Seen) (nu : Naming) (gone : Bool) → any_gone s.scope.path (s.first nu).gone ≡ gone
    → join_from false nu s ≡ then_goes (acted (act_join false gone false s.scope.path (s.first nu)) s.left) (λ a τ m. comes (joined false a) s.scope.path s.scope.branch false τ m)
unfolding steps_of act
join_comes s nu gone g =
    free_comes (join false) (λ vs. joined false vs) s.scope.path s.scope.branch false (s.first nu) refl s.left
    ∙ ap (λ b. then_goes (acted (act_join false b false s.scope.path (s.first nu)) s.left) (λ a τ m. comes (joined false a) s.scope.path s.scope.branch false τ m)) g

cut_at : (s mid : Seen) (nu : Naming) (v : Val) (gone : Bool) → then_goes (acted (act_join false gone false s.scope.path (s.first nu)) s.left) (λ a τ m. comes (joined false a) s.scope.path s.scope.branch false τ m) ≡ goes v (mid.first nu) mid.left
    → (mid.first nu ≡ join_scope s.scope.path (s.first nu)) × (mid.left ≡ s.left)
unfolding comes
cut_at s mid nu v true e = let z : ⊥ = cc in absurd z
cut_at s mid nu v false e = (sym (ap state_of e), sym (ap left_of e))

pub cut_by : (s mid : Seen) (nu : Naming) (v : Val) → join_from false nu s ≡ goes v (mid.first nu) mid.left → (mid.first nu ≡ join_scope s.scope.path (s.first nu)) × (mid.left ≡ s.left)
cut_by s mid nu v e = let gone = any_gone s.scope.path (s.first nu).gone in cut_at s mid nu v gone (sym (join_comes s nu gone refl) ∙ e)

pub joined_with : (ended new : Moment alone) (mid : Seen) → Stays ended.heap mid → ((nu : Naming) → Fits nu mid.names → (mid.first nu ≡ join_scope ended.heap.scope.path (ended.heap.first nu)) × (mid.left ≡ ended.heap.left))
    → LeavesKeep mid new.heap → new ≡ record ended { heap = new.heap } → LeftWith (joined_in ended) ended new
joined_with ended new mid stays cut k is = record {
  keeps = record {
    around = sym stays.outer ∙ k.around;
    grows = λ i n e. ap (λ l. slice_get l i) k.names ∙ stays.grows i n e;
    below = λ i n e l. stays.below i n (ap (λ q. slice_get q i) (sym k.names) ∙ e) l;
    left = k.left ∙ (cut (naming mid.names).0 (naming mid.names).1).1;
    rest = is;
  };
  first_is = λ nu fits. k.first nu ∙ (λ i. leave ((stays.scope i).back nu) ((cut nu (subst (Fits nu) k.names fits)).0 i));
}

-- where the first part of the state was changed after it
pub left_then : {first : Naming → St} (h : Naming → St → St) (old mid new : Moment alone) → LeftWith first old mid → Changes h mid.heap new.heap → new ≡ record mid { heap = new.heap } → LeftWith (λ nu. h nu (first nu)) old new
left_then h old mid new k c is = record {
  keeps = record {
    around = k.keeps.around ∙ (λ i. sym c.scope i ∷ sym c.outer i);
    grows = λ i n e. ap (λ l. slice_get l i) c.names ∙ k.keeps.grows i n e;
    below = λ i n e l. k.keeps.below i n (ap (λ q. slice_get q i) (sym c.names) ∙ e) l;
    left = c.left ∙ k.keeps.left;
    rest = is ∙ ap (λ (m : Moment alone). record m { heap = new.heap }) k.keeps.rest;
  };
  first_is = λ nu fits. c.first nu fits ∙ ap (h nu) (k.first_is nu (subst (Fits nu) c.names fits));
}

pub left_lost : {first : Naming → St} (old new : Moment alone) → LeftWith first old new → Loses (Stopped Memory) old new
left_lost old new k = record {
  is = refl;
  same = record { later = tt; session = ap (λ (m : Moment alone). m.session) k.keeps.rest; trace = ap (λ (m : Moment alone). m.trace) k.keeps.rest; pairs = ap (λ (m : Moment alone). m.pairs) k.keeps.rest; grows = k.keeps.grows };
  made = ap (λ (m : Moment alone). m.made) k.keeps.rest;
  stopped = ap (λ (m : Moment alone). m.stopped) k.keeps.rest;
}

pub kept_with : (old new : Moment alone) → LeavesKeep old.heap new.heap → new ≡ record old { heap = new.heap } → LeftWith (λ nu. leave (old.heap.scope.back nu) (old.heap.first nu)) old new
kept_with old new k is = record {
  keeps = record {
    around = k.around;
    grows = λ i n e. ap (λ l. slice_get l i) k.names ∙ e;
    below = λ i n e l. let h = slice_get_within old.heap.names i n (ap (λ q. slice_get q i) (sym k.names) ∙ e) in let z : ⊥ = omega (arith, h, l) in absurd z;
    left = k.left;
    rest = is;
  };
  first_is = λ nu fits. k.first nu;
}

-- memory ran out, and nothing changed
pub lost_same : {X : Type 0} (seen : X → Asked) (words : X → ℕ → ℕ) (old new : AskedRun X) (x : Exit) → x ≡ Stopped Memory → new.guarded ≡ old.guarded → new.asker ≡ old.asker → new.notes ≡ old.notes → Loses x (moment_of seen words old) (moment_of seen words new)
lost_same seen words old new x is guarded asker notes =
    let e : moment_of seen words new ≡ moment_of seen words old = λ i. moment_at (seen_of (guarded i).machine) (seen (asker i)) (words (asker i)) (notes_of (notes i)) in
    subst (λ m. Loses x (moment_of seen words old) m) (sym e) (record { is = is; same = same_refl; made = refl; stopped = refl })
