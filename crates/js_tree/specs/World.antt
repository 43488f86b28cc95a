-- What a run knows of the outside, and the ask rules: what a record at the call's path answers, and what is answered and
-- recorded where there is none (own rules).
use Rattle.std.specs.Prelude.{ℕ, ℤ, pos, int_rem, List, Option, Some, None}
use Rattle.std.proofs.Common.{suc, [], ◌∷◌, ◌++◌}
use Rattle.turk_base.specs.Names.{Path, Units, pick, units_eq, integer_eq}
use Rattle.turk_base.specs.Values.{Wait, task}
use Rattle.turk_base.specs.declared.Record.{Record}
use Rattle.turk_base.specs.declared.Record.TheVariants as kept
use Rattle.turk_base.specs.Asks.{Question, posts, replies, draws, AnsOf, Rec, rec, find, answer, token}

-- Draws: those that records tell of, or the words of a source from a place on.
pub data Draws : Type 0 where
  told_by : (l : List Rec) → Draws
  words : (word : ℕ → ℕ) → Draws

-- what a run knows beside its trace
pub record World : Type 0 where
  pub session : Units
  pub pairs : List (Units × Units)
  pub dice : Draws

-- how a record was called and what it kept, where a run diverges
pub data Called : Type 0 where
  called_post : (text : Units) → Called
  called_reply : (token : Units) → Called
  called_random : (bound : ℤ) → Called
  called_once called_fork : Called

pub data Found : Type 0 where
  found_kept : (what : Record) → Found
  found_below : Found

pub data Divergence : Type 0 where
  diverges : (path : Path) → (kept : Found) → (called : Called) → Divergence

abbrev pub called_by : Question → Called
called_by (posts t) = called_post t
called_by (replies t) = called_reply t
called_by (draws n) = called_random n

-- what a record at the call's path answers, or none where the run diverges
abbrev pub kept_answer : (q : Question) → (session : Units) → Path → Record → Option (AnsOf q)
kept_answer (posts t) session p (kept.Post u) = pick (units_eq u t) (Some (token session p)) None
kept_answer (posts t) session p (kept.Reply u x) = None
kept_answer (posts t) session p (kept.Draw m n) = None
kept_answer (posts t) session p (kept.Once d) = None
kept_answer (replies t) session p (kept.Post u) = None
kept_answer (replies t) session p (kept.Reply u x) = pick (units_eq u t) (Some x) None
kept_answer (replies t) session p (kept.Draw m n) = None
kept_answer (replies t) session p (kept.Once d) = None
kept_answer (draws m) session p (kept.Post u) = None
kept_answer (draws m) session p (kept.Reply u x) = None
kept_answer (draws m) session p (kept.Draw k n) = pick (integer_eq k m) (Some n) None
kept_answer (draws m) session p (kept.Once d) = None

-- what is answered and recorded where there is no record
pub record Fresh (q : Question) : Type 0 where
  pub answer : AnsOf q
  pub what : Record

abbrev pub fresh_reply : (t : Units) → Option Units → Option (Fresh (replies t))
fresh_reply t (Some x) = Some (record { answer = x; what = kept.Reply t x })
fresh_reply t None = None

abbrev pub fresh_draw : (m : ℤ) → Option ℤ → Option (Fresh (draws m))
fresh_draw m (Some n) = Some (record { answer = n; what = kept.Draw m n })
fresh_draw m None = None

-- the draw of this bound that the records tell of at p
abbrev pub drawn_of : ℤ → Option Rec → Option ℤ
drawn_of m (Some (rec p (kept.Draw k n))) = pick (integer_eq k m) (Some n) None
drawn_of m (Some (rec p (kept.Post t))) = None
drawn_of m (Some (rec p (kept.Reply t x))) = None
drawn_of m (Some (rec p (kept.Once d))) = None
drawn_of m None = None

-- `k` draws were made before
abbrev pub draw_of : Draws → ℕ → Path → ℤ → Option ℤ
draw_of (told_by l) k p m = drawn_of m (find p l)
draw_of (words word) k p m = Some (int_rem (pos (word k)) m)

unfoldable pub fresh : (q : Question) → World → ℕ → Path → Option (Fresh q)
fresh (posts t) E k p = Some (record { answer = token E.session p; what = kept.Post t })
fresh (replies t) E k p = fresh_reply t (answer E.pairs t)
fresh (draws m) E k p = fresh_draw m (draw_of E.dice k p m)

-- the part that is never taken back, but for the records: fuel left, draws made, forks called, waits noted
pub record Rest : Type 0 where
  pub left : ℕ
  pub drawn : ℕ
  pub forks : ℕ
  pub waits : List Wait

abbrev pub drew : Question → Rest → Rest
drew (posts t) w = w
drew (replies t) w = w
drew (draws m) w = record w { drawn = suc w.drawn }

-- the wait of an ask without an answer
abbrev pub noted : Question → Rest → Rest
noted (posts t) w = w
noted (replies t) w = record w { waits = w.waits ++ (task t ∷ []) }
noted (draws m) w = w
