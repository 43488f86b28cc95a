-- What programs come to, put together.
use Rattle.std.specs.Prelude.{List}
use Rattle.std.proofs.Common.{◌≡◌, sym, ap, subst, ◌∙◌, ◌++◌, append_assoc}
use Rattle.turk_base.specs.Asks.{Rec}
use Rattle.turk_base.specs.State.{St}
use Rattle.turk_base.specs.Prog.{Prog, Prim, Then, Always}
use Rattle.turk_base.specs.Values.{Val, Outcome, Normal}
use Rattle.js_tree.specs.Run.{Res, res, add, run}
use Rattle.js_tree.specs.World.{Rest}
use Rattle.run_laws.proofs.Sequel.{Place, Ends, Stops, NotNormal, goes_on, goes_out, goes_stop, stops_then, always, stops_always}
use Rattle.run_laws.proofs.Cuts.{Next, first_cut, then_cut, first_always_cut, always_cut}
use Rattle.ask_model.specs.declared.AskStop.{AskStop}
use Rattle.run_host.specs.declared.Halt.{Halt}
use Rattle.run_host.specs.Told.{Told, Says, Halts, Fails}
use Rattle.run_host.specs.Ends.{Halted, Comes, says, halts, fails}

pub add_add : (l m : List Rec) (r : Res) → add l (add m r) ≡ add (l ++ m) r
add_add l m r = ap (λ z. record r { made = z }) (sym (append_assoc l m r.made))

-- no value of it is known to go on
abbrev pub NoValue : Told → Type 0
NoValue (Says o) = NotNormal o
NoValue (Halts h) = Unit {0}
NoValue (Fails why) = Unit {0}

pub ends_of : {c : Place} {g : Prog} {o : Outcome} {σ τ : St} {w w' : Rest} {l : List Rec} {next : AskStop → Next} → Comes c g σ w l next (Says o) τ w' → Ends c g o σ w τ w' l
ends_of (says e) = e

pub halted_then : {c : Place} {g f : Prog} {σ τ υ : St} {w x y : Rest} {m : List Rec} {h : Halt} (l : List Rec) →
    ((r : Res) → Stops c g τ x r → Stops c f σ w (add l r)) → Halted c g τ x m h υ y → Halted c f σ w (l ++ m) h υ y
halted_then {c} {g} {f} {σ} {τ} {υ} {w} {x} {y} {m} {h} l k a = record {
  out = a.out;
  is = a.is;
  at = a.at;
  left = a.left;
  like = a.like;
  fuel = a.fuel;
  stops = subst (λ r. Stops c f σ w r) (add_add l m (res a.out a.at (record y { left = a.left }))) (k _ a.stops);
}

pub halted_as : {c : Place} {g f : Prog} {σ υ : St} {w y : Rest} {l : List Rec} {h : Halt} →
    ((r : Res) → Stops c g σ w r → Stops c f σ w r) → Halted c g σ w l h υ y → Halted c f σ w l h υ y
halted_as k a = record { out = a.out; is = a.is; at = a.at; left = a.left; like = a.like; fuel = a.fuel; stops = k _ a.stops }

always_stop : {c : Place} {g : Prog} {go : Outcome → Prog} {o : Outcome} {σ τ : St} {w x : Rest} {l : List Rec} {r : Res} →
    Ends c g o σ w τ x l → Stops c (go o) τ x r → Stops c (Always g go) σ w (add l r)
unfolding run
always_stop {l = l} e s = record { holds = λ k. e.holds _ ∙ ap (add l) (s.holds k) }

pub comes_then : {c : Place} {g : Prog} {go : Val → Prog} {v : Val} {σ τ υ : St} {w x y : Rest} {l m : List Rec} {next : AskStop → Next} {t : Told} →
    Ends c g (Normal v) σ w τ x l → Comes c (go v) τ x m next t υ y → Comes c (Then g go) σ w (l ++ m) next t υ y
comes_then e (says k) = says (goes_on e k)
comes_then {l = l} e (halts k) = halts (halted_then l (λ r s. goes_stop e s) k)
comes_then e (fails k) = fails (then_cut e k)

pub comes_out : {c : Place} {g : Prog} {go : Val → Prog} {σ υ : St} {w y : Rest} {l : List Rec} {next : AskStop → Next} {t : Told} → NoValue t →
    Comes c g σ w l next t υ y → Comes c (Then g go) σ w l next t υ y
comes_out n (says k) = says (goes_out n k)
comes_out n (halts k) = halts (halted_as (λ r s. stops_then s) k)
comes_out n (fails k) = fails (first_cut k)

pub comes_always : {c : Place} {g : Prog} {go : Outcome → Prog} {o : Outcome} {σ τ υ : St} {w x y : Rest} {l m : List Rec} {next : AskStop → Next} {t : Told} →
    Ends c g o σ w τ x l → Comes c (go o) τ x m next t υ y → Comes c (Always g go) σ w (l ++ m) next t υ y
comes_always e (says k) = says (always e k)
comes_always {l = l} e (halts k) = halts (halted_then l (λ r s. always_stop e s) k)
comes_always e (fails k) = fails (always_cut e k)

-- it ends in no outcome
abbrev pub NoOutcome : Told → Type 0
NoOutcome (Says o) = ⊥
NoOutcome (Halts h) = Unit {0}
NoOutcome (Fails why) = Unit {0}

pub comes_always_out : {c : Place} {g : Prog} {go : Outcome → Prog} {σ υ : St} {w y : Rest} {l : List Rec} {next : AskStop → Next} {t : Told} → NoOutcome t →
    Comes c g σ w l next t υ y → Comes c (Always g go) σ w l next t υ y
comes_always_out n (says k) = absurd n
comes_always_out n (halts k) = halts (halted_as (λ r s. stops_always s) k)
comes_always_out n (fails k) = fails (first_always_cut k)
