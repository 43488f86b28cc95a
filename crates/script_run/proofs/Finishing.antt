-- How the run of a whole script ended, by how its last statement did.
use Rattle.std.specs.Prelude.{ℕ, Bool, true, false, List, [], Result, Ok, Err, IfOk, IfErr}
use Rattle.std.proofs.Common.{◌≡◌, refl, sym, ap, ◌∙◌, subst, append-nil}
use Rattle.turk_base.specs.Names.{Path, Units, root}
use Rattle.turk_base.specs.Asks.{Rec}
use Rattle.turk_base.specs.State.{St, any_gone}
use Rattle.turk_base.specs.Values as model
use Rattle.turk_base.specs.Values.{Val, Wait}
use Rattle.js_tree.specs.World.{World, Rest}
use Rattle.js_tree.specs.Run.{Out, Why, Res, End, ret, thr, bar, valued, ended, waits, halted, spent, diverged, res, add, branch_end}
use Rattle.js_tree.specs.Eval.{close, closed}
use Rattle.js_tree.specs.Report as report
use Rattle.js_tree.specs.Report.{EndOfRun, end_of, uncaught_text}
use Rattle.run_laws.proofs.Fronts.{front}
use Rattle.ask_model.specs.declared.Divergence.{Divergence}
use Rattle.ask_model.specs.declared.AskStop.{AskStop}
use Rattle.ask_model.specs.declared.AskStop.TheVariants as stop
use Rattle.value_cells.specs.Seen.{Naming, val_in}
use Rattle.run_host.specs.declared.Exit.{Exit}
use Rattle.run_host.specs.declared.Flow.{Flow}
use Rattle.run_host.specs.declared.Flow.TheVariants as flow
use Rattle.run_host.specs.declared.Refusal.{Refusal}
use Rattle.run_host.specs.Ends.{Like}
use Rattle.run_host.specs.declared.Halt.{Halt}
use Rattle.run_host.specs.declared.Halt.TheVariants as halt
use Rattle.run_host.specs.Moment.{Unmade}
use Rattle.run_host.specs.Told.{Halts, IsOut, GoesOn, refusal_in, flow_in, told_flow}
use Rattle.script_run.specs.declared.End as told
use Rattle.script_run.specs.declared.End.TheVariants as end
use Rattle.script_run.specs.Closes.{HaltedAt}
use Rattle.script_run.specs.Tells.{EndIn, EndsAt, StopIs, by_record, by_asker}

still : (b : Bool) (w : Why) → closed b (halted w) ≡ halted w
still true w = refl
still false w = refl

-- the value that a run ends with
abbrev gift_of : Naming → Flow → Val
gift_of nu (flow.Return v) = val_in nu v
gift_of nu flow.Normal = model.Undefined
gift_of nu flow.Break = model.Undefined
gift_of nu flow.Continue = model.Undefined

came : (nu : Naming) (f : Flow) (σ : St) (w : Rest) → branch_end (flow_in nu f) σ w ≡ res (ended (ret (valued (gift_of nu f)))) σ w
came nu flow.Normal σ w = refl
came nu flow.Break σ w = refl
came nu flow.Continue σ w = refl
came nu (flow.Return v) σ w = refl

like_same : {σ : St} → Like σ σ
like_same = record { text = refl; verdict = refl; gone = refl }

-- an end that tells of waiting for these
abbrev pub TellsWaiting : told.End → List Wait → Type 0
TellsWaiting x l = (r : EndOfRun) (w : List Wait) → r ≡ report.Waiting → w ≡ l → EndIn x r w

-- a run ended so at a state like σ
module _ (x : Out) (at σ : St) (like : Like at σ) (w : Rest) (made : List Rec) (e : Res) (is : e ≡ close (add made (res x at w))) where
  waits_are : e.rest.waits ≡ w.waits
  waits_are = ap (λ (e : Res). e.rest.waits) is

  -- by what closing comes to
  pub at_end : (r : told.End) (y : Out) → closed (any_gone root σ.gone) x ≡ y → EndIn r (end_of y at) w.waits → EndsAt r σ w made e
  at_end r y c h = record {
    is = subst (λ z. EndIn r z e.rest.waits)
        (sym (ap (λ (e : Res). end_of e.out e.st) is ∙ ap (λ g. end_of (closed (any_gone root g) x) at) like.gone ∙ ap (λ z. end_of z at) c))
        (subst (λ l. EndIn r (end_of y at) l) (sym waits_are) h);
    text = ap (λ (e : Res). e.st.text) is ∙ like.text;
    verdict = ap (λ (e : Res). e.st.verdict) is ∙ like.verdict;
    forks = ap (λ (e : Res). e.rest.forks) is;
    made_are = ap (λ (e : Res). e.made) is ∙ append-nil made;
  }

-- the script came to an end, and waits where a branch is absent
pub chosen : (x : End) {at σ : St} {w : Rest} {made : List Rec} {e : Res} {l : List Wait} (absent : Bool) (result waiting y : told.End) → Like at σ → e ≡ close (add made (res (ended x) at w))
    → any_gone root σ.gone ≡ absent → w.waits ≡ l → TellsWaiting waiting l → EndIn y (end_of (ended x) at) w.waits → (absent ≡ true → result ≡ waiting) → (absent ≡ false → result ≡ y) → EndsAt result σ w made e
chosen x {at} {σ} {w} {made} {e} {l} true result waiting y like is g h tells k c d =
    subst (λ r. EndsAt r σ w made e) (sym (c refl)) (at_end (ended x) at σ like w made e is waiting waits (ap (λ b. closed b (ended x)) g) (tells report.Waiting w.waits refl h))
chosen x {at} {σ} {w} {made} {e} {l} false result waiting y like is g h tells k c d =
    subst (λ r. EndsAt r σ w made e) (sym (d refl)) (at_end (ended x) at σ like w made e is y (ended x) (ap (λ b. closed b (ended x)) g) k)

pub finished_is : (nu : Naming) (o : Flow) {σ : St} {w : Rest} {made : List Rec} {e : Res} {l : List Wait} (absent : Bool) (result waiting : told.End) → e ≡ close (add made (branch_end (flow_in nu o) σ w))
    → any_gone root σ.gone ≡ absent → w.waits ≡ l → TellsWaiting waiting l → (absent ≡ true → result ≡ waiting) → (absent ≡ false → result ≡ end.Finished) → EndsAt result σ w made e
finished_is nu o {σ} {w} {made} {e} {l} absent result waiting is g h tells c d = chosen (ret (valued (gift_of nu o))) absent result waiting end.Finished like_same (is ∙ ap (λ r. close (add made r)) (came nu o σ w)) g h tells refl c d

pub threw_is : (v : Val) {σ : St} {w : Rest} {made : List Rec} {e : Res} {l : List Wait} (absent : Bool) (result waiting : told.End) (text : Units) → text ≡ uncaught_text v σ → e ≡ close (add made (branch_end (model.Throw v) σ w))
    → any_gone root σ.gone ≡ absent → w.waits ≡ l → TellsWaiting waiting l → (absent ≡ true → result ≡ waiting) → (absent ≡ false → result ≡ end.Uncaught text) → EndsAt result σ w made e
threw_is v absent result waiting text x is g h tells c d = chosen (thr v) absent result waiting (end.Uncaught text) like_same is g h tells (ap report.Uncaught (sym x)) c d

abbrev out_is : {h : Halt} {σ : St} {w : Rest} {made : List Rec} {e : Res} {o : Out} (a : HaltedAt h σ w made e) → a.out ≡ o → e ≡ close (add made (res o a.at (record w { left = a.left })))
out_is {w = w} {made = made} a o = a.closed ∙ ap (λ o. close (add made (res o a.at (record w { left = a.left })))) o

-- the counts, but for the fuel
with_left : {r : told.End} {σ : St} {w : Rest} {n : ℕ} {made : List Rec} {e : Res} → EndsAt r σ (record w { left = n }) made e → EndsAt r σ w made e
with_left h = record { is = h.is; text = h.text; verdict = h.verdict; forks = h.forks; made_are = h.made_are }

pub refused_is : {h : Halt} {y : Refusal} {σ : St} {w : Rest} {made : List Rec} {e : Res} {l : List Wait} (absent : Bool) (result waiting : told.End) → h ≡ halt.Refused y → HaltedAt h σ w made e
    → any_gone root σ.gone ≡ absent → w.waits ≡ l → TellsWaiting waiting l → (absent ≡ true → result ≡ waiting) → (absent ≡ false → result ≡ end.Refused y) → EndsAt result σ w made e
refused_is {h} {y} absent result waiting is a g k tells c d = with_left (chosen (bar (refusal_in y)) absent result waiting (end.Refused y) a.like (out_is a (subst (λ h. IsOut h a.out) is a.is)) g k tells refl c d)

pub waits_is : {h : Halt} {σ : St} {w : Rest} {made : List Rec} {e : Res} {l : List Wait} (waiting : told.End) → h ≡ halt.Waits → HaltedAt h σ w made e → w.waits ≡ l → TellsWaiting waiting l → EndsAt waiting σ w made e
waits_is {σ = σ} {w} {made} {e} waiting is a k tells =
    with_left (at_end waits a.at σ a.like (record w { left = a.left }) made e (out_is a (subst (λ h. IsOut h a.out) is a.is)) waiting waits (still_waits (any_gone root σ.gone)) (tells report.Waiting w.waits refl k))
  where
    still_waits : (b : Bool) → closed b waits ≡ waits
    still_waits true = refl
    still_waits false = refl

pub spent_is : {h : Halt} {σ : St} {w : Rest} {made : List Rec} {e : Res} → h ≡ halt.Spent → HaltedAt h σ w made e → EndsAt end.Spent σ w made e
spent_is {σ = σ} {w} {made} {e} is a =
    with_left (at_end (halted spent) a.at σ a.like (record w { left = a.left }) made e (out_is a (subst (λ h. IsOut h a.out) is a.is)) end.Spent (halted spent) (still (any_gone root σ.gone) spent) refl)

-- the same with another cause
pub caused_by : {cause more : AskStop → Type 0} {E : World} {u : Unmade} {made : List Rec} {e : Res} {why : AskStop} → ((w : AskStop) → cause w → more w) → StopIs cause E u made e why → StopIs more E u made e why
caused_by f (by_record t o m) = by_record t o m
caused_by f (by_asker {why} c n) = by_asker (f why c) n

-- what was made is a front of what the run makes
pub made_front : {cause : AskStop → Type 0} {E : World} {u : Unmade} {σ : St} {w : Rest} {made : List Rec} {e : Res} (v : Val) → cause stop.Memory → e ≡ close (add made (branch_end (model.Throw v) σ w)) → StopIs cause E u made e stop.Memory
made_front {made = made} {e = e} v lost is = by_asker lost (front [] (ap (λ (e : Res). e.made) is))

-- the run diverges by a record
pub diverges_stop : {cause : AskStop → Type 0} {E : World} {u : Unmade} {h : Halt} {d : Divergence} {σ : St} {w : Rest} {made : List Rec} {e : Res} → h ≡ halt.Diverges d → HaltedAt h σ w made e → StopIs cause E u made e (stop.Diverged d)
diverges_stop {cause} {E} {u} {h} {d} {σ} {w} {made} {e} is a = by (subst (λ h. IsOut h a.out) is a.is)
  where
    by : IsOut (halt.Diverges d) a.out → StopIs cause E u made e (stop.Diverged d)
    by (m, t, o) = by_record t (ap (λ (e : Res). e.out) a.closed ∙ ap (closed (any_gone root a.at.gone)) o ∙ still (any_gone root a.at.gone) (diverged m)) (ap (λ (e : Res). e.made) a.closed ∙ append-nil made)

pub if_ok : {A B : Type 0} {P Q : A → Type 0} (r : Result A B) → ((x : A) → P x → Q x) → IfOk r P → IfOk r Q
if_ok (Ok x) f h = f x h
if_ok (Err y) f h = h

pub if_err : {A B : Type 0} {P Q : B → Type 0} (r : Result A B) → ((y : B) → P y → Q y) → IfErr r P → IfErr r Q
if_err (Ok x) f h = h
if_err (Err y) f h = f y h

-- the scope that runs is the script's
pub at_root : {p : Path} {absent : Bool} (σ : St) → p ≡ root → absent ≡ any_gone p σ.gone → any_gone root σ.gone ≡ absent
at_root σ e h = ap (λ p. any_gone p σ.gone) (sym e) ∙ sym h

pub goes_refused : {h : Halt} {y : Refusal} → h ≡ halt.Refused y → GoesOn (Halts h)
goes_refused e = subst (λ h. GoesOn (Halts h)) (sym e) tt

pub goes : (nu : Naming) (r : Result Flow Exit) (f : Flow) → r ≡ Ok f → GoesOn (told_flow nu r)
goes nu r f e = subst (λ (r : Result Flow Exit). GoesOn (told_flow nu r)) (sym e) tt
