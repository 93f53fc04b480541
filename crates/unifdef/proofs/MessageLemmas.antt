-- Messages from their parts.
use Rattle.std.proofs.Common.{◌≡◌, ℕ, List, [], ◌++◌, ap, sym, ◌∙◌, append_assoc, append-nil, codes, decimal}
use Rattle.ud_model.specs.answer.Messages.{message_of}
use Rattle.ud_model.specs.sections.Faults.{premature_eof}

-- a message from its three parts, of which the one between is read from a buffer
pub three_joined : (before after : List ℕ) {between is : List ℕ} → between ≡ is → before ++ (between ++ (after ++ [])) ≡ before ++ is ++ after
three_joined before after {is = is} e = ap (λ n. before ++ (n ++ (after ++ []))) e ∙ ap (λ x. before ++ (is ++ x)) (append-nil after) ∙ sym (append_assoc before is after)

seven_joined : (u n b l c m d e : List ℕ) → u ++ (n ++ (b ++ (l ++ ((b ++ c) ++ (m ++ ((d ++ e) ++ [])))))) ≡ u ++ n ++ b ++ l ++ b ++ (c ++ m ++ d) ++ e
seven_joined u n b l c m d e = simp (append_assoc, append-nil)

-- the message about an open section at the end, from its seven parts
pub premature_joined : (line if_line : ℕ) (name number if_number : List ℕ) → number ≡ decimal line → if_number ≡ decimal if_line
    → codes "unifdef: " ++ (name ++ (codes ": " ++ (number ++ (codes ": Premature EOF (#if line " ++ (if_number ++ (codes ")\n" ++ []))))))
    ≡ message_of name (premature_eof line if_line)
premature_joined line if_line name number if_number e f =
    ap (λ n. codes "unifdef: " ++ (name ++ (codes ": " ++ (n ++ (codes ": Premature EOF (#if line " ++ (if_number ++ (codes ")\n" ++ []))))))) e
    ∙ ap (λ n. codes "unifdef: " ++ (name ++ (codes ": " ++ (decimal line ++ (codes ": Premature EOF (#if line " ++ (n ++ (codes ")\n" ++ []))))))) f
    ∙ seven_joined (codes "unifdef: ") name (codes ": ") (decimal line) (codes "Premature EOF (#if line ") (decimal if_line) (codes ")") (codes "\n")
