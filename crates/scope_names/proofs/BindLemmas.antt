-- A declaration found among frames with each name once is that among the frames themselves.
use Rattle.std.specs.Prelude.{ℕ, ◌≡◌, ◌<◌, refl, Bool, true, false, List, [], map, slice_get, Option, Some, None}
use Rattle.std.specs.Option.{option_map}
use Rattle.std.proofs.Common.{ap, sym, ◌∙◌, subst}
use Rattle.std.proofs.lemmas.Option.{slice_get-map}
use Rattle.js_tree.specs.declared.Binding.{Binding}
use Rattle.js_tree.specs.declared.Binding.TheVariants as binding
use Rattle.turk_base.specs.Names.{Units}
use Rattle.js_tree.specs.Calls.{has}
use Rattle.js_tree.specs.Binds.{FrameNames, Frames, Nearest, Undeclared, BindsTo}
use Rattle.scope_names.specs.Gathered.{gathered, collected}
use Rattle.scope_names.proofs.NameLemmas.{has-gathered}

record Found (o : Option FrameNames) (g : FrameNames) : Type 0 where
  frame : FrameNames
  at : o ≡ Some frame
  same : collected frame ≡ g

found : (o : Option FrameNames) (g : FrameNames) → option_map collected o ≡ Some g → Found o g
found (Some f) g e = record { frame = f; at = refl; same = cc }
found None g e = absurd (let never : ⊥ = cc in never)

at_place : (frames : Frames) (k : ℕ) (f : FrameNames) → slice_get frames k ≡ Some f → slice_get (map collected frames) k ≡ Some (collected f)
at_place frames k f e = slice_get-map collected frames k ∙ ap (option_map collected) e

nearest_of : (frames : Frames) (name : Units) (out : ℕ) (own : Bool) → Nearest (map collected frames) name out own → Nearest frames name out own
nearest_of frames name out own near =
    let there = found (slice_get frames out) near.frame (sym (slice_get-map collected frames out) ∙ near.stands) in
    record {
      frame = there.frame;
      stands = there.at;
      declared = sym (has-gathered [] there.frame.names name) ∙ ap (λ g. has g.names name) there.same ∙ near.declared;
      marked = near.marked ∙ ap (λ g. g.own) (sym there.same);
      first = λ k f less e. sym (has-gathered [] f.names name) ∙ near.first k (collected f) less (at_place frames k f e);
    }

undeclared_of : (frames : Frames) (name : Units) → Undeclared (map collected frames) name → Undeclared frames name
undeclared_of frames name not_there k f e = sym (has-gathered [] f.names name) ∙ not_there k (collected f) (at_place frames k f e)

binds_map : (frames : Frames) (name : Units) (own : Bool) (place : Binding) → BindsTo (map collected frames) name own place → BindsTo frames name own place
binds_map frames name own (binding.Out out) h = nearest_of frames name out own h
binds_map frames name own binding.BuiltIn h = (undeclared_of frames name h.0, h.1, h.2)
binds_map frames name own binding.Nothing h = (undeclared_of frames name h.0, h.1, h.2)

pub binds_of : (shown frames : Frames) (name : Units) (own : Bool) (place : Binding) → shown ≡ map collected frames → BindsTo shown name own place → BindsTo frames name own place
binds_of shown frames name own place e h = binds_map frames name own place (subst (λ fs. BindsTo fs name own place) e h)
