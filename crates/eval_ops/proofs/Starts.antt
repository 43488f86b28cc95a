-- The machine that a run begins with.
use Rattle.std.proofs.Common.{◌≡◌, refl, ap, sym, ◌∙◌, subst, ℕ, ◌≤◌, false, List, [], None, slice_get, length, arith}
use Rattle.turk_base.specs.Names.{Name, path_in, Under, home}
use Rattle.turk_base.specs.Values as model
use Rattle.turk_base.specs.Start.{start}
use Rattle.turk_base.specs.Prog.{Make}
use Rattle.turk_base.specs.Steps.{steps_of}
use Rattle.value_cells.specs.declared.CellKind.TheVariants.{Frame}
use Rattle.value_cells.specs.Comes.{goes, comes}
use Rattle.value_cells.specs.Seen.{Fits, kind_in}
use Rattle.value_cells.specs.Does.{Says, Does}
use Rattle.value_cells.proofs.Turns.{fits_before}
use Rattle.run_heap.specs.Core.{Core, names_in, Rests}
use Rattle.run_heap.specs.Placed.{placed}
use Rattle.run_heap.specs.Begins.{Begins}
use Rattle.run_heap.specs.Works.{Works}
use Rattle.eval_ops.specs.Run.{Run, stands, around, seen_of}
use Rattle.eval_ops.specs.Stored.{IsRun, HasRoom}
use Rattle.eval_ops.specs.Calls.{at_start, IsBare}

module _ (fuel : ℕ) (old new : Core) (b : Begins fuel old) (r : Rests old new) where
  abbrev pub begun : Run
  begun = record { heap = new; body = false; values = []; text = []; gone = []; outer = []; left_back = None }

  pub begun_does : (n : ℕ) → n ≡ 7 → Works (λ nu. steps_of (Make (kind_in nu (Frame None)))) (λ nu. Says (nu n)) old new → Does (λ nu. Make (model.Frame None)) (λ nu. Says (nu 7)) (at_start fuel) (seen_of begun)
  begun_does n seven w =
      let x = w.all (around begun) in
      record {
        stays = record {
          scope = λ i. record { path = path_in ((r.path ∙ b.path) i); branch = path_in ((r.branch ∙ b.branch) i); body = false; back = λ nu. start };
          outer = refl;
          grows = λ i m e. x.stays.grows i m (ap (λ l. slice_get l i) b.names ∙ e);
          below = λ i m e l. subst (λ p. Under (path_in p) (home m)) b.path (x.stays.below i m e (subst (λ (ns : List Name). length ns ≤ i) (sym b.names) l));
        };
        did = λ nu fits.
            let before = fits_before nu (names_in old.cells.now) (names_in new.cells.now) x.stays.grows fits in
            let calls : new.place.calls ≡ 0 = r.calls ∙ b.calls in
            let first : placed nu old (stands new.place.calls [] [] [] nu) ≡ start =
            (λ i. placed nu old (stands (calls i) [] [] [] nu)) ∙ b.first nu (subst (λ ns. Fits nu ns) b.names before) in
            sym (λ i. comes (steps_of (Make (model.Frame None))) (path_in (b.path i)) (path_in (b.branch i)) false (first i) (b.left i))
            ∙ x.did nu fits ∙ ap (λ k. goes (nu k) ((seen_of begun).first nu) new.left) seven;
      }

  pub begun_run : IsRun begun
  begun_run = record {
    values = omega arith;
    kept_values = λ i o cells e f. cc;
    as_many = sym (ap length (r.outer ∙ b.outer));
    printed = λ i o e. cc;
    absent = λ i o e. cc;
    ordered = λ i j o p l e f. cc;
  }

  pub begun_room : (n : ℕ) → HasRoom begun n
  begun_room n = record { kept = λ i o e. cc; now = λ p e. cc }

module _ (fuel : ℕ) (h : Core) (b : Begins fuel h) where
  abbrev pub bare : Run
  bare = record { heap = h; body = false; values = []; text = []; gone = []; outer = []; left_back = None }

  pub bare_run : IsRun bare
  bare_run = record {
    values = omega arith;
    kept_values = λ i o cells e f. cc;
    as_many = sym (ap length b.outer);
    printed = λ i o e. cc;
    absent = λ i o e. cc;
    ordered = λ i j o p l e f. cc;
  }

  pub bare_room : (n : ℕ) → HasRoom bare n
  bare_room n = record { kept = λ i o e. cc; now = λ p e. cc }

  pub is_bare : IsBare fuel (seen_of bare)
  is_bare = record {
    names = b.names;
    first = λ nu f. (λ i. placed nu h (stands (b.calls i) [] [] [] nu)) ∙ b.first nu (subst (λ ns. Fits nu ns) b.names f);
    path = ap path_in b.path;
    branch = ap path_in b.branch;
    body = refl;
    outer = refl;
    left = b.left;
  }
