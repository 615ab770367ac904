-- The line of a report on a page with room for it: each field that is added stands behind those before it, and is as long as a number of 64 bits
-- at most. Assumes nothing.
use Prim.Native.Nat.{ℕ, ◌+◌, ◌≤◌}
use mathlib.Core.Bool.{Bool, true, false}
use mathlib.Core.List.{List, [], ◌++◌}
use mathlib.Core.Path.{◌≡◌, refl, ap, ◌∙◌}
use native.Mathlib.Omega.{arith}
use lib.ListN.{length, length-append}
use Rattle.ascii.specs.Ascii.{ascii}
use Rattle.text.specs.Page.{Page, fresh_page, add_of}
use Rattle.text.specs.Digits.{decimal_of, places_of}
use Rattle.text.proofs.Pages.{add_whole, few-places}
use Rattle.report.specs.declared.Report.{Report}
use Rattle.report.specs.Report.{mode_text, report_line}

-- a text of at most k bytes is all that stands on a page for n
record Written (n k : ℕ) (text : List ℕ) (p : Page) : Type 0 where
  room : p.room ≡ n
  short : length text ≤ k
  whole : p.text ≡ text

added : {n k j : ℕ} {text : List ℕ} {p q : Page} (s : List ℕ) → Written n k text p → q ≡ add_of p s → length s ≤ j → k + j ≤ n → Written n (k + j) (text ++ s) q
added {n} {k} {j} {text} {p} {q} s w e h room =
    let r = w.room in
    let t = w.short in
    let b : length p.text ≡ length text = ap length w.whole in
    let whole : q ≡ record { room = p.room; text = p.text ++ s } = e ∙ add_whole p s (omega arith) in
    let a = length-append text s in
    record {
      room = ap (λ (x : Page). x.room) whole ∙ r;
      short = omega arith;
      whole = ap (λ (x : Page). x.text) whole ∙ ap (λ (x : List ℕ). x ++ s) w.whole;
    }

decimal-short : (n : ℕ) → length (decimal_of n) ≤ 20
unfolding places_of
decimal-short n = few-places n

mode-short : (mode : Bool) → length (mode_text mode) ≤ 1
unfolding mode_text
mode-short true = omega arith
mode-short false = omega arith

-- a field and its comma
field : {n k j : ℕ} {text : List ℕ} {p q : Page} (s : List ℕ) → Written n k text p → q ≡ add_of (add_of p s) (ascii ",") → length s ≤ j → k + j + 1 ≤ n → Written n (k + j + 1) (text ++ s ++ ascii ",") q
field s w e h room = added (ascii ",") (added s w refl h (omega arith)) e (omega arith) room

pub composed : (r : Report) {o p q s t u v w x : Page} → o ≡ fresh_page 128 → p ≡ add_of (add_of o (decimal_of r.refusal)) (ascii ",") → q ≡ add_of (add_of p (mode_text r.in_command_mode)) (ascii ",") → s ≡ add_of (add_of q (decimal_of r.state)) (ascii ",") → t ≡ add_of (add_of s (decimal_of r.stage)) (ascii ",") → u ≡ add_of (add_of t (decimal_of r.m)) (ascii ",") → v ≡ add_of (add_of u (decimal_of r.first)) (ascii ",") → w ≡ add_of v (decimal_of r.second) → x ≡ add_of w (ascii "\n") → x.text ≡ report_line r
unfolding report_line
composed r {o} n a b c d e f g h =
    let none : Written 128 0 [] o = record { room = ap (λ (x : Page). x.room) n; short = omega arith; whole = ap (λ (x : Page). x.text) n } in
    let refusal = field (decimal_of r.refusal) none a (decimal-short _) (omega arith) in
    let mode = field (mode_text r.in_command_mode) refusal b (mode-short _) (omega arith) in
    let state = field (decimal_of r.state) mode c (decimal-short _) (omega arith) in
    let stage = field (decimal_of r.stage) state d (decimal-short _) (omega arith) in
    let m = field (decimal_of r.m) stage e (decimal-short _) (omega arith) in
    let first = field (decimal_of r.first) m f (decimal-short _) (omega arith) in
    let second = added (decimal_of r.second) first g (decimal-short _) (omega arith) in
    (added {j = 1} (ascii "\n") second h (omega arith) (omega arith)).whole
