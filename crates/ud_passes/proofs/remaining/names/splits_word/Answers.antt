-- Up to a backslash, past one, or to the end.
use Rattle.std.proofs.Common.{◌≡◌, ◌+◌, ◌-◌, ◌<◌, ◌&&◌, ◌||◌, ◌∷◌, List, ℕ, Bool, true, false}
use Rattle.std.proofs.Common.{length, length-drop, take, drop, get_or, refl, sym, ◌∙◌, ap, arith}
use Rattle.std.proofs.lemmas.Bool.Decides.{Decides-eqb}
use Rattle.std.proofs.lemmas.List.{take_rest, drop_more, drop-drop, drop_all}
use Rattle.memchr.specs.Find.{Nowhere, NoneBefore, Passes, is_byte}
use Rattle.ud_passes.specs.remaining.ListedNames.{ends_in_word, begins_ending, splits_word}
use Rattle.ud_passes.proofs.NameLemmas.{splits_word-pass}
use Rattle.ud_passes.proofs.remaining.names.splits_word.Goals as goal

-- A backslash first.
backslash_first : (in_word : Bool) (b : ℕ) (rest : List ℕ) → b ≡ 92 →
    splits_word in_word (b ∷ rest) ≡ ((in_word && begins_ending rest) || splits_word false rest)
backslash_first true b rest e = rw e refl
backslash_first false b rest e = rw e refl

-- The first backslash of `v`, if `split` tells whether it splits a word.
split_next : (u v rest : List ℕ) (count : ℕ) (split : Bool) → v ≡ u →
    NoneBefore (Passes (is_byte 92) v) 0 (length v) count → Passes (is_byte 92) v count →
    drop (count + 1) u ≡ rest → split ≡ (ends_in_word false (take count u) && begins_ending
    rest) →
    splits_word false u ≡ (split || splits_word false rest)
split_next u v rest count split e = rw e (λ first here next is.
    let low = first.high in
    splits_word-pass false u count (omega (arith, low)) first.before
    ∙ ap (splits_word (ends_in_word false (take count u)))
    (drop_more u count 0 low ∙ ap (λ (x : List ℕ). get_or u count 0 ∷ x) next)
    ∙ backslash_first (ends_in_word false (take count u)) (get_or u count 0) rest
    ((Decides-eqb (get_or u count 0) 92).0 here)
    ∙ ap (λ (s : Bool). s || splits_word false rest) (sym is))

-- No backslash in `v`.
none_next : (u v : List ℕ) → v ≡ u → Nowhere (Passes (is_byte 92) v) 0 (length v) →
    splits_word false u ≡ false
none_next u v e = rw e (λ none.
    splits_word-pass false u (length u) (omega arith) none ∙ ap
    (splits_word (ends_in_word false (take (length u) u)))
    (drop_all (length u) u (omega arith)))

-- The text after `at`, with the bytes that the function has of it.
next_of : (t : List ℕ) (at count : ℕ) (split : Bool) → at < length t →
    NoneBefore (Passes (is_byte 92) (take (length t - at) (drop at t))) 0
    (length (take (length t - at) (drop at t))) count →
    Passes (is_byte 92) (take (length t - at) (drop at t)) count →
    split ≡ (ends_in_word false (take (at + count - at) (drop at t)) && begins_ending
    (take (length t - (at + count + 1)) (drop (at + count + 1) t))) →
    splits_word false (drop at t) ≡ (split || splits_word false (drop (at + count + 1) t))
next_of t at count split within first here is =
    let n : at + count - at ≡ count = omega arith in
    let rest = take_rest t (at + count + 1) in
    split_next (drop at t) (take (length t - at) (drop at t)) (drop (at + count + 1) t) count split
    (take_rest t at) first here
    (drop-drop (count + 1) at t ∙ ap (λ (k : ℕ). drop k t) (omega arith))
    (is ∙ ap (λ (k : ℕ). ends_in_word false (take k (drop at t)) && begins_ending
    (take (length t - (at + count + 1)) (drop (at + count + 1) t))) n
    ∙ ap (λ (x : List ℕ). ends_in_word false (take count (drop at t)) && begins_ending x) rest)

pub returns-in_default : goal.returns-in_default
returns-in_default c = let t = c.args.text.now in let at = c.loop-at.at in
    sym (c.loop-at.invariant.same ∙ none_next (drop at t) (take (length t - at) (drop at t))
    (take_rest t at) c.in_default.ensures)

pub returns-then-is_split : goal.returns-then-is_split
returns-then-is_split c = sym (c.loop-at.invariant.same
    ∙ next_of c.args.text.now c.loop-at.at c.in-Some.count true c.loop-at-test.true
    c.in-Some.ensures.0 c.in-Some.ensures.1 c.if-is_split.ensures)

pub loop-at-preserved : goal.loop-at-preserved
loop-at-preserved c = let t = c.args.text.now in let at = c.loop-at.at in record {
  within = let low = c.in-Some.ensures.0.high in let size = ap (λ (x : List ℕ). length x)
      (take_rest t at) in omega (arith, low, size, length-drop at t, c.loop-at.invariant.within);
  same = c.loop-at.invariant.same ∙ next_of t at c.in-Some.count false c.loop-at-test.true
      c.in-Some.ensures.0 c.in-Some.ensures.1 c.if-is_split.ensures;
}
