-- `console::fields::Fields::push` meets its contract: by where the byte stands and what it is, a comma, a digit or another. Assumes nothing.
use Prim.Native.Nat.{ℕ, ◌-◌}
use mathlib.Core.List.{List}
use mathlib.Core.Path.{ap, ◌∙◌}
use native.Mathlib.Omega.{arith}
use borrow.Author.Tests.{ne_eqb, le-leb, lt-leb, lt-ltb, le-ltb}
use Rattle.std.specs.Prelude.{Option, Some}
use Rattle.console.specs.declared.fields.Place.TheVariants.{Digit}
use Rattle.console.specs.Fields.{pushed, pushed_at, letter_if, behind_if, first_if, next_if}
use Rattle.std.proofs.lemmas.List.{length-set}
use Rattle.std.proofs.lemmas.Option.{none-some}
use Rattle.console.proofs.Held.{none-behind, none-behind-one-more, letter-no-digit, empty-no-digit}
use Rattle.console.proofs.Reading.{grown-at, one-more, counted}
use Rattle.console.proofs.fields.Fields.push.Goals.{in-Start-eq44, in-Start-default, in-Digit-48-to-57, in-Empty-48-to-57, in-Letter-eq44, in-Letter-eq44-2, in_default-2, in_default-2-2, in_default-2-3, in_default-2-4, in_default-2-6, in_default-2-5}
use Rattle.console.proofs.fields.Fields.push.Goals as goal

pub returns : goal.returns
unfolding pushed pushed_at letter_if behind_if first_if next_if
returns g c =
    let byte = c.args.byte in
    let f = c.self.inside in
    rw (← c.self.view_is, c.in-Some.is) (elim c.match-place.branch [
      | in-Start-eq44 w ↦ rw (w.self-inside-is, w.self-is, w.in-Start-eq44.is-0, w.in-Start-eq44.is-1)
      | in-Start-default w ↦ rw (w.self-inside-is, w.self-is, w.in-Start-default.is-0, ne_eqb _ _ w.in-Start-default.is-1.1)
      | in-Letter-eq44 w ↦ rw (w.self-inside-is, w.self-is, w.in-Letter-eq44.is-0, w.in-Letter-eq44.is-1)
      | in-Letter-eq44-2 w ↦ rw (w.self-inside-is, w.self-is, w.in-Letter-eq44.is-0, w.in-Letter-eq44.is-1)
      | in-Empty-48-to-57 w ↦ rw (w.self-inside-is, w.self-is, w.in-Empty-48-to-57.is-0, le-leb 48 byte (omega arith), le-leb byte 57 (omega arith), counted _ _ _ c.self.invariant.0 c.self.told, lt-ltb _ _ w.if-self.true, w.from.ensures, one-more f.count f.numbers (Some (byte - 48)) (omega arith))
      | in-Digit-48-to-57 w ↦ rw (w.self-inside-is, w.self-is, w.in-Digit-48-to-57.is-0, ne_eqb _ _ w.in-Digit-48-to-57.is-1.1, le-leb 48 byte (omega arith), le-leb byte 57 (omega arith), w.grown.ensures)
          (ap (λ (ns : List (Option ℕ)). record { letter = f.letter; numbers = ns; place = Some Digit }) (grown-at f.count f.numbers _ (c.self.invariant.1 (c.in-Some.is ∙ ap Some w.in-Digit-48-to-57.is-0)) (omega arith)))
      | in_default-2 w ↦ rw (w.self-inside-is, w.self-is, w.in_default-2.is-0, ne_eqb _ _ w.in_default-2.is-1.1)
      | in_default-2-2 w ↦ rw (w.self-inside-is, w.self-is, w.in_default-2.is-0, ne_eqb _ _ w.in_default-2.is-1.1, lt-leb 48 byte (omega arith))
      | in_default-2-3 w ↦ rw (w.self-inside-is, w.self-is, w.in_default-2.is-0, ne_eqb _ _ w.in_default-2.is-1.1, lt-leb byte 57 (omega arith), le-leb 48 byte (omega arith))
      | in_default-2-4 w ↦ rw (w.self-inside-is, w.self-is, w.in_default-2.is-0, lt-leb 48 byte (omega arith))
      | in_default-2-5 w ↦ rw (w.self-inside-is, w.self-is, w.in_default-2.is-0, lt-leb byte 57 (omega arith), le-leb 48 byte (omega arith))
      | in_default-2-6 w ↦ rw (w.self-inside-is, w.self-is, w.in-Empty-48-to-57.is-0, le-leb 48 byte (omega arith), le-leb byte 57 (omega arith), counted _ _ _ c.self.invariant.0 c.self.told, le-ltb _ _ w.if-self.false)
    ])

pub invariant_of-self : goal.invariant_of-self
invariant_of-self g c =
    let h = c.self.invariant in
    let f = c.self.inside in
    elim c.match-place.branch [
      | in-Start-eq44 w ↦ rw (w.self-inside-is, w.self-is) (h.0, λ e. absurd (none-some Digit e), h.2, h.3)
      | in-Start-default w ↦ rw (w.self-inside-is, w.self-is) (h.0, λ e. absurd (letter-no-digit e), h.2, h.3)
      | in-Letter-eq44 w ↦ rw (w.self-inside-is, w.self-is) (h.0, λ e. absurd (empty-no-digit e), h.2, h.3)
      | in-Letter-eq44-2 w ↦ rw (w.self-inside-is, w.self-is) (h.0, λ e. absurd (empty-no-digit e), h.2, h.3)
      | in-Empty-48-to-57 w ↦ rw (w.self-inside-is, w.self-is) (omega arith, λ e. omega arith, length-set f.numbers f.count _ ∙ h.2, none-behind-one-more g.row.N f.count f.numbers _ h.3)
      | in-Digit-48-to-57 w ↦ rw (w.self-inside-is, w.self-is) (h.0, λ e. h.1 (c.in-Some.is ∙ ap Some w.in-Digit-48-to-57.is-0), length-set f.numbers (f.count - 1) _ ∙ h.2, none-behind g.row.N f.count (f.count - 1) f.numbers _ (let p = h.1 (c.in-Some.is ∙ ap Some w.in-Digit-48-to-57.is-0) in omega arith) h.3)
      | in_default-2 w ↦ rw (w.self-inside-is, w.self-is) (h.0, λ e. absurd (none-some Digit e), h.2, h.3)
      | in_default-2-2 w ↦ rw (w.self-inside-is, w.self-is) (h.0, λ e. absurd (none-some Digit e), h.2, h.3)
      | in_default-2-3 w ↦ rw (w.self-inside-is, w.self-is) (h.0, λ e. absurd (none-some Digit e), h.2, h.3)
      | in_default-2-4 w ↦ rw (w.self-inside-is, w.self-is) (h.0, λ e. absurd (none-some Digit e), h.2, h.3)
      | in_default-2-5 w ↦ rw (w.self-inside-is, w.self-is) (h.0, λ e. absurd (none-some Digit e), h.2, h.3)
      | in_default-2-6 w ↦ rw (w.self-inside-is, w.self-is) (h.0, λ e. absurd (none-some Digit e), h.2, h.3)
    ]
