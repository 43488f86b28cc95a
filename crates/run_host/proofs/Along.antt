-- What is done in a run that nothing answers is done in one whose asker goes on along its chain.
use Rattle.std.specs.Prelude.{Bool, Result, Ok, Err}
use Rattle.std.proofs.Common.{◌≡◌}
use Rattle.turk_base.specs.Prog.{Prog}
use Rattle.js_tree.specs.World.{World}
use Rattle.value_cells.specs.Seen.{Naming}
use Rattle.run_host.specs.declared.Exit.{Exit}
use Rattle.run_host.specs.Moment.{Chain, Moment, apart, Suits, Within}
use Rattle.run_host.specs.Told.{Told}
use Rattle.run_host.specs.Did.{Runs}
use Rattle.run_host.specs.Steps.{Step, Leads, Leaves, Gives, Takes}
use Rattle.run_host.specs.Scopes.{Opens, OpensOnce, OpensFork}

apart_suits : {κ : Chain} {E : World} {m : Moment κ} → Suits E (apart m) → Suits E m
apart_suits s = record { session = s.session; pairs = s.pairs; dealt = s.dealt }

suits_apart : {κ : Chain} {E : World} {m : Moment κ} → Suits E m → Suits E (apart m)
suits_apart s = record { session = s.session; pairs = s.pairs; dealt = s.dealt }

apart_within : {κ : Chain} {a b : Moment κ} → Within (apart a) (apart b) → Within a b
apart_within w = record { scope = w.scope; outer = w.outer; below = w.below; falls = w.falls }

within_apart : {κ : Chain} {a b : Moment κ} → Within a b → Within (apart a) (apart b)
within_apart w = record { scope = w.scope; outer = w.outer; below = w.below; falls = w.falls }

pub runs_apart : {κ : Chain} {g : Naming → Prog} {t : Naming → Told} {a b : Moment κ} → Runs g t a b → Runs g t (apart a) (apart b)
runs_apart r = record {
  same = record { later = tt; session = r.same.session; trace = r.same.trace; pairs = r.same.pairs; grows = r.same.grows };
  within = λ nu z. within_apart (r.within nu z);
  added = r.added;
  made = r.made;
  dealt = r.dealt;
  moved = λ nu z. record { on = (r.moved nu z).on };
  shown = r.shown;
  ran = λ nu f E s b l c. r.ran nu f E (apart_suits s) b l c;
}

-- and what answers it goes on along its chain
pub runs_along : {κ : Chain} {g : Naming → Prog} {t : Naming → Told} {a b : Moment κ} → κ.To a.asker b.asker → Runs g t (apart a) (apart b) → Runs g t a b
runs_along later r = record {
  same = record { later = later; session = r.same.session; trace = r.same.trace; pairs = r.same.pairs; grows = r.same.grows };
  within = λ nu z. apart_within (r.within nu z);
  added = r.added;
  made = r.made;
  dealt = r.dealt;
  moved = λ nu z. record { on = (r.moved nu z).on };
  shown = r.shown;
  ran = λ nu f E s b l c. r.ran nu f E (suits_apart s) b l c;
}

-- what changes nothing is done whatever answers the run
pub anywhere : {κ : Chain} {g : Naming → Prog} {t : Naming → Told} (m : Moment κ) → Runs g t (apart m) (apart m) → Runs g t m m
anywhere {κ} m r = runs_along (κ.stays m.asker) r

-- ---- steps

leads_along : {κ : Chain} {A : Type 0} {f g : Naming → Step A} {s t : Moment κ} → κ.To s.asker t.asker → Leads f g (apart s) (apart t) → Leads f g s t
leads_along {κ} {A} {f} {g} {s} {t} later x = record {
  goes = λ go. record { goes = λ said last r. runs_along (κ.goes_on s.asker t.asker last.asker later r.same.later) ((x.goes go).goes said (apart last) (runs_apart r)) };
}

pub leaves_along : {κ : Chain} {A : Type 0} {f : Naming → Step A} {e : Exit} {s t : Moment κ} → κ.To s.asker t.asker → Leaves f e (apart s) (apart t) → Leaves f e s t
leaves_along later x = record { ends = λ go. runs_along later (x.ends go) }

pub takes_along : {κ : Chain} {A B : Type 0} (f : Naming → Step A) (h : Naming → B → A) (s t : Moment κ) (r : Result B Exit) → κ.To s.asker t.asker → Takes f h r (apart s) (apart t) → Takes f h r s t
takes_along f h s t (Ok b) later x = leads_along later x
takes_along f h s t (Err e) later x = leaves_along later x

pub gives_along : {κ : Chain} {A : Type 0} (f : Naming → Step A) (a : Naming → A) (s t : Moment κ) → κ.To s.asker t.asker → Gives f a (apart s) (apart t) → Gives f a s t
gives_along f a s t later x = leads_along later x

-- ---- scopes that were opened

opens_apart : {κ : Chain} {b : Bool} {s t : Moment κ} → Opens b s t → Opens b (apart s) (apart t)
opens_apart o = record { later = tt; cells = o.cells; names = o.names; left = o.left; session = o.session; trace = o.trace; pairs = o.pairs; made = o.made; words = o.words; waits = o.waits; stopped = o.stopped; outer = o.outer; first = o.first; back = o.back; path = o.path; unfound = o.unfound }

opens_along : {κ : Chain} {b : Bool} {s t : Moment κ} → κ.To s.asker t.asker → Opens b (apart s) (apart t) → Opens b s t
opens_along later o = record { later = later; cells = o.cells; names = o.names; left = o.left; session = o.session; trace = o.trace; pairs = o.pairs; made = o.made; words = o.words; waits = o.waits; stopped = o.stopped; outer = o.outer; first = o.first; back = o.back; path = o.path; unfound = o.unfound }

pub once_apart : {κ : Chain} {s t : Moment κ} → OpensOnce s t → OpensOnce (apart s) (apart t)
once_apart o = record { opens = opens_apart o.opens; branch = o.branch; body = o.body; forks = o.forks }

pub once_along : {κ : Chain} {s t : Moment κ} → κ.To s.asker t.asker → OpensOnce (apart s) (apart t) → OpensOnce s t
once_along later o = record { opens = opens_along later o.opens; branch = o.branch; body = o.body; forks = o.forks }

pub fork_apart : {κ : Chain} {s t : Moment κ} → OpensFork s t → OpensFork (apart s) (apart t)
fork_apart o = record { opens = opens_apart o.opens; here = o.here; branch = o.branch; body = o.body; forks = o.forks }

pub fork_along : {κ : Chain} {s t : Moment κ} → κ.To s.asker t.asker → OpensFork (apart s) (apart t) → OpensFork s t
fork_along later o = record { opens = opens_along later o.opens; here = o.here; branch = o.branch; body = o.body; forks = o.forks }
