-- What is computed of values alone: an answer, or why it is refused.
use Rattle.std.specs.Prelude.{Option, Some, None, Result, Ok, Err}
use Rattle.turk_base.specs.Names.{Units}
use Rattle.turk_base.specs.Values as model
use Rattle.run_host.specs.declared.Refusal.{Refusal}
use Rattle.run_host.specs.Told.{refusal_in}

abbrev pub answer_of : {A B : Type 0} → (B → A) → Result B Refusal → Result A model.Refusal
answer_of told (Ok b) = Ok (told b)
answer_of told (Err why) = Err (refusal_in why)

-- the text of a value, none for an object
abbrev pub text_or_none : Option Units → Result Units model.Refusal
text_or_none (Some t) = Ok t
text_or_none None = Err model.NoPrimitive
