-- Quiet runs: bytes that are read without a stop, one run after another, and cut at a newline.
use Rattle.std.proofs.Common.{arith, ◌≡◌, ℕ, List, [], ◌∷◌, ◌++◌, Bool, true, if◌then◌else◌, refl}
use Rattle.ud_model.specs.text.Bytes.{is_white, skip_white, newline}
use Rattle.ud_text.specs.bulk.BulkStates.{next_bulk_state, NoNewlineInBlock, bulk_state_after, BulkState, HasNoStop, is_other_word, starts_with_no_keyword}
use Rattle.ud_model.proofs.text.ScanLaws.{place_after, white_after}
use Rattle.std.proofs.lemmas.Grind.{common_steps}

-- bytes lead on from the state to which the bytes before them lead
pub bulk_state_after-append : (s : BulkState) (p q : List ℕ) → bulk_state_after s (p ++ q) ≡ bulk_state_after (bulk_state_after s p) q
bulk_state_after-append s [] q = refl
bulk_state_after-append s (b ∷ p) q = bulk_state_after-append (next_bulk_state s b) p q

-- the lexer's state to which bytes lead
pub bulk_state_after-place : (s : BulkState) (p : List ℕ) → (bulk_state_after s p).state ≡ place_after s.state p
bulk_state_after-place s [] = refl
bulk_state_after-place s (b ∷ p) = bulk_state_after-place (next_bulk_state s b) p

-- bytes lead to a white line or not
pub bulk_state_after-white : (s : BulkState) (p : List ℕ) → (bulk_state_after s p).white ≡ white_after s.state s.white p
bulk_state_after-white s [] = refl
bulk_state_after-white s (b ∷ p) = bulk_state_after-white (next_bulk_state s b) p

-- a word that is no keyword stays one with further bytes
pub other-append : (p q : List ℕ) → is_other_word p ≡ true → is_other_word (p ++ q) ≡ true
other-append [] q e = cc
other-append (a ∷ p) q e = grind (arith, common_steps, other-append p q)

-- two runs without a stop, one after the other, have none
pub HasNoStop-append : (s : BulkState) (p q : List ℕ) → HasNoStop s p → HasNoStop (bulk_state_after s p) q → HasNoStop s (p ++ q)
HasNoStop-append s [] q h k = k
HasNoStop-append s (b ∷ p) q h k = (grind (arith, other-append, h.0), HasNoStop-append (next_bulk_state s b) p q h.1 k)

-- nothing after a newline counts for the word before it
pub other-feed : (p q : List ℕ) → is_other_word (p ++ newline ∷ q) ≡ is_other_word (p ++ newline ∷ [])
other-feed [] [] = refl
other-feed [] (b ∷ q) = refl
other-feed (a ∷ p) q = by_white (other-feed p q) (is_white a)
  where
    rest_is : (r : List ℕ) → starts_with_no_keyword (a ∷ (r ++ newline ∷ q)) ≡ starts_with_no_keyword (a ∷ (r ++ newline ∷ []))
    rest_is [] = refl
    rest_is (c ∷ r) = refl

    by_white : is_other_word (p ++ newline ∷ q) ≡ is_other_word (p ++ newline ∷ []) → (t : Bool) → starts_with_no_keyword (if t then skip_white (p ++ newline ∷ q) else a ∷ (p ++ newline ∷ q)) ≡ starts_with_no_keyword (if t then skip_white (p ++ newline ∷ []) else a ∷ (p ++ newline ∷ []))
    by_white h t = grind (arith, rest_is)

-- a run without a stop has none up to a newline, and none after it: nothing after a newline counts
pub HasNoStop-feed : (s : BulkState) (p q : List ℕ) → HasNoStop s (p ++ newline ∷ q) → HasNoStop s (p ++ newline ∷ []) × HasNoStop (bulk_state_after s (p ++ newline ∷ [])) q
HasNoStop-feed s [] q h = ((h.0, tt), h.1)
HasNoStop-feed s (b ∷ p) q h = grind (arith, other-feed, HasNoStop-feed (next_bulk_state s b) p q h.1)

-- what follows a prefix of a run without a stop has none
pub HasNoStop-rest : (s : BulkState) (p q : List ℕ) → HasNoStop s (p ++ q) → HasNoStop (bulk_state_after s p) q
HasNoStop-rest s [] q h = h
HasNoStop-rest s (b ∷ p) q h = HasNoStop-rest (next_bulk_state s b) p q h.1

-- two runs without a newline in a block comment, one after the other, have none
pub NoNewlineInBlock-append : (s : BulkState) (p q : List ℕ) → NoNewlineInBlock s p → NoNewlineInBlock (bulk_state_after s p) q → NoNewlineInBlock s (p ++ q)
NoNewlineInBlock-append s [] q h k = k
NoNewlineInBlock-append s (b ∷ p) q h k = (h.0, NoNewlineInBlock-append (next_bulk_state s b) p q h.1 k)

-- what follows a prefix of a run without a newline in a block comment has none
pub NoNewlineInBlock-rest : (s : BulkState) (p q : List ℕ) → NoNewlineInBlock s (p ++ q) → NoNewlineInBlock (bulk_state_after s p) q
NoNewlineInBlock-rest s [] q h = h
NoNewlineInBlock-rest s (b ∷ p) q h = NoNewlineInBlock-rest (next_bulk_state s b) p q h.1
