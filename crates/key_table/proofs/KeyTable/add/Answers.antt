use Rattle.std.proofs.Common.{◌≡◌, ap, sym, ◌∙◌, subst, arith, suc}
use Rattle.std.specs.Map.{keys_of}
use Rattle.key_table.specs.Keys.{HasNone, HasNumber, Grows}
use Rattle.key_table.specs.Stored.{IsTable}
use Rattle.key_table.proofs.KeyFacts.{none, numbered_more, distinct_more, has_number, grows_more, grows_same}
use Rattle.key_table.proofs.KeyTable.add.Goals as goal
use Rattle.key_table.proofs.KeyTable.add.Goals.{in-Ok, in-Err}

pub insert_at-requires-clause-fresh : goal.insert_at-requires-clause-fresh
insert_at-requires-clause-fresh c =
    none c.self.inside.entries c.in_ok-key.key (subst (λ ks. HasNone ks c.in_ok-key.key) (sym c.self.view_is) (subst (λ k. HasNone c.args.self.now k) (sym c.in_ok-key.ensures) c.requires))

pub invariant_of-self : goal.invariant_of-self
invariant_of-self c =
    let fresh : HasNone (keys_of c.self.inside.entries) c.in_ok-key.key = subst (λ ks. HasNone ks c.in_ok-key.key) (sym c.self.view_is) (subst (λ k. HasNone c.args.self.now k) (sym c.in_ok-key.ensures) c.requires) in
    let n : c.in-Some.number ≡ suc c.len-place.result = c.in-Some.ensures ∙ omega arith in
    elim c.match-insert_at.branch [
      | in-Ok w ↦ record {
        numbered = numbered_more c.self.inside.entries c.insert_at.new.self c.in_ok-key.key c.len-place.result c.in-Some.number n c.len-place.ensures.len w.in-Ok.ensures.ok c.self.invariant.numbered;
        distinct = distinct_more c.self.inside.entries c.insert_at.new.self c.in_ok-key.key c.len-place.result c.in-Some.number n c.len-place.ensures.len w.in-Ok.ensures.ok c.self.invariant.distinct fresh;
      }
      | in-Err w ↦ subst (λ es. IsTable (record { entries = es })) (sym w.in-Err.ensures.err) c.self.invariant
    ]

pub returns-clause-ok : goal.returns-clause-ok
returns-clause-ok c =
    let n : c.in-Some.number ≡ suc c.len-place.result = c.in-Some.ensures ∙ omega arith in
    elim c.match-insert_at.branch [
      | in-Ok w ↦ rw w.result-is (subst (λ k. HasNumber (keys_of c.insert_at.new.self) k c.in-Some.number) c.in_ok-key.ensures
          (has_number c.self.inside.entries c.insert_at.new.self c.in_ok-key.key c.len-place.result c.in-Some.number n c.len-place.ensures.len w.in-Ok.ensures.ok))
      | in-Err w ↦ rw w.result-is tt
    ]

pub returns-clause-grows : goal.returns-clause-grows
returns-clause-grows c =
    let n : c.in-Some.number ≡ suc c.len-place.result = c.in-Some.ensures ∙ omega arith in
    elim c.match-insert_at.branch [
      | in-Ok w ↦ subst (λ ks. Grows ks (keys_of c.insert_at.new.self)) c.self.view_is (grows_more c.self.inside.entries c.insert_at.new.self c.in_ok-key.key c.len-place.result c.in-Some.number n c.len-place.ensures.len w.in-Ok.ensures.ok)
      | in-Err w ↦ grows_same c.args.self.now (keys_of c.insert_at.new.self) (ap keys_of w.in-Err.ensures.err ∙ c.self.view_is)
    ]
