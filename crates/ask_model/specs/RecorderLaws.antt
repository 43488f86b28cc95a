-- What holds of the tests' recorder in any state.
use Rattle.std.specs.Prelude.{◌≡◌, ◌+◌, ◌≤◌, ℕ, false, List, [], ◌++◌, length, take, drop, is_some, refl}
use Rattle.std.proofs.Common.{inl, inr, sym, ap, ◌∙◌, subst, arith, append-nil, append_assoc, take-append-drop}
use Rattle.std.proofs.lemmas.List.{take_all}
use Rattle.std.specs.Borrow.{MutBor}
use Rattle.turk_base.specs.declared.Entry.{Entry}
use Rattle.ask_model.specs.declared.Refused.{Refused}
use Rattle.ask_model.specs.declared.Refused.TheVariants.{Never, Last, Earlier}
use Rattle.ask_model.specs.Draws.{draws_in, HaveWords}
use Rattle.ask_model.specs.Laws.{draws_in_both, words_from, words_both}
use Rattle.ask_model.specs.Recorder.{Shelf, LeftBy, Follows, Holds}

pub known_left : (shelf : Shelf) (start : ℕ) → LeftBy shelf (length shelf.entries) (take start shelf.entries ++ drop start shelf.entries)
known_left shelf start = inl (length shelf.entries, omega arith, omega arith, take-append-drop start shelf.entries ∙ sym (take_all (length shelf.entries) shelf.entries (omega arith)))

pub now_is : (shelf : Shelf) (start : ℕ) (t : List Entry) → is_some shelf.torn ≡ false → LeftBy shelf (length shelf.entries) t → t ≡ take start shelf.entries ++ drop start shelf.entries
now_is shelf start t going (inl (k, low, high, is)) =
    let all : k ≡ length shelf.entries = omega arith in
    is ∙ ap (λ (n : ℕ). take n shelf.entries) all ∙ take_all (length shelf.entries) shelf.entries (omega arith) ∙ sym (take-append-drop start shelf.entries)
now_is shelf start t going (inr (e, torn, is)) = absurd (cc)

pub counts_now : (shelf : Shelf) (n : ℕ) (t : List Entry) → n ≤ length shelf.entries → LeftBy shelf (length shelf.entries) t → LeftBy shelf n t
counts_now shelf n t le (inl (k, low, high, is)) = inl (k, omega arith, high, is)
counts_now shelf n t le (inr torn) = inr torn

follows_refl : (r : Refused) → Follows r r
follows_refl Never = tt
follows_refl Last = tt
follows_refl Earlier = tt

follows_trans : (a b c : Refused) → Follows a b → Follows b c → Follows a c
follows_trans Never b c h k = tt
follows_trans Last Never c h k = absurd h
follows_trans Last Last c h k = k
follows_trans Last Earlier Never h k = absurd k
follows_trans Last Earlier Last h k = absurd k
follows_trans Last Earlier Earlier h k = tt
follows_trans Earlier Never c h k = absurd h
follows_trans Earlier Last c h k = absurd h
follows_trans Earlier Earlier c h k = k

-- what came before, by what came after
before_never : (a b : Refused) → Follows a b → b ≡ Never → a ≡ Never
before_never Never b h is = refl
before_never Last Never h is = absurd h
before_never Last Last h is = is
before_never Last Earlier h is = absurd (cc)
before_never Earlier Never h is = absurd h
before_never Earlier Last h is = absurd h
before_never Earlier Earlier h is = is

not_earlier : (a b : Refused) → Follows a b → (b ≡ Earlier → ⊥) → a ≡ Earlier → ⊥
not_earlier Never b h free is = absurd (cc)
not_earlier Last b h free is = absurd (cc)
not_earlier Earlier Never h free is = absurd h
not_earlier Earlier Last h free is = absurd h
not_earlier Earlier Earlier h free is = free refl

after_last : (a b : Refused) → Follows a b → (b ≡ Earlier → ⊥) → a ≡ Last → b ≡ Last
after_last Never b h free is = absurd (cc)
after_last Last Never h free is = absurd h
after_last Last Last h free is = refl
after_last Last Earlier h free is = absurd (free refl)
after_last Earlier b h free is = absurd (cc)

-- the words of two steps, by which calls were refused between them
words_on : {W : Type 0} (rest : W → ℕ → ℕ) (wa wb : MutBor W) (ra rb rc : Refused) (l m : List Entry) → Follows ra rb → (ra ≡ Never → HaveWords (rest wa.now) 0 l) → (rb ≡ Never → HaveWords (rest wb.now) 0 m) × (rb ≡ Last → m ≡ [])
    → (rb ≡ Never → (k : ℕ) → rest wb.now k ≡ rest wa.now (draws_in l + k)) → (rb ≡ Earlier → ⊥) → ra ≡ Never → HaveWords (rest wa.now) 0 (l ++ m)
words_on rest wa wb ra Never rc l m f h g moved free is = words_both (rest wa.now) 0 l m (h is) (words_from (rest wb.now) (rest wa.now) (draws_in l) 0 m (moved refl) (g.0 refl))
words_on rest wa wb ra Last rc l m f h g moved free is = subst (HaveWords (rest wa.now) 0) (sym (ap (λ (x : List Entry). l ++ x) (g.1 refl) ∙ append-nil l)) (h is)
words_on rest wa wb ra Earlier rc l m f h g moved free is = absurd (free refl)

module _ {S D W : Type 0} (rest : W → ℕ → ℕ) where
  pub holds_refl : (s : MutBor S) (d : MutBor D) (w : MutBor W) (l : List Entry) (r : Refused) → Holds rest s s d d w w l l r r
  holds_refl s d w l r = record {
    shelf = refl;
    desk = refl;
    draws = refl;
    follows = follows_refl r;
    more = [];
    gained = sym (append-nil l);
    words = λ free. (λ is. tt, λ is. refl);
    moved = λ is k. ap (rest w.now) (omega arith);
  }

  pub holds_trans : (sa sb sc : MutBor S) (da db dc : MutBor D) (wa wb wc : MutBor W) (la lb lc : List Entry) (ra rb rc : Refused) → Holds rest sa sb da db wa wb la lb ra rb → Holds rest sb sc db dc wb wc lb lc rb rc → Holds rest sa sc da dc wa wc la lc ra rc
  holds_trans sa sb sc da db dc wa wb wc la lb lc ra rb rc h g = record {
    shelf = g.shelf ∙ h.shelf;
    desk = g.desk ∙ h.desk;
    draws = g.draws ∙ h.draws;
    follows = follows_trans ra rb rc h.follows g.follows;
    more = h.more ++ g.more;
    gained = g.gained ∙ ap (λ (x : List Entry). x ++ g.more) h.gained ∙ append_assoc la h.more g.more;
    words = λ free.
        let free_b = not_earlier rb rc g.follows free in (
          words_on rest wa wb ra rb rc h.more g.more h.follows (h.words free_b).0 (g.words free) h.moved free_b,
          λ is.
              let last = after_last ra rb h.follows free_b is in
              ap (λ (x : List Entry). x ++ g.more) ((h.words free_b).1 is) ∙ (g.words free).1 last,
        );
    moved = λ is k. g.moved is k ∙ h.moved (before_never rb rc g.follows is) (draws_in g.more + k) ∙ ap (rest wa.now) (omega (arith, draws_in_both h.more g.more));
  }
