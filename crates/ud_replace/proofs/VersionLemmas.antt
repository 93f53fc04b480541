-- Versions of a file that are compared field by field.
use Rattle.std.proofs.Common.{◌≡◌, ◌&&◌, ℕ, ℤ, Bool, true, false, Some, List, ◌∷◌, refl, sym, ap, ◌∙◌, int_eq, true≢false, arith}
use lib.Dec.{eqb}
use Rattle.std.proofs.lemmas.Bool.Decides.{Decides-eqb, Decides-int_eq}
use Rattle.std.proofs.lemmas.Bool.{and_parts, and_from}
use Rattle.std.proofs.lemmas.Grind.{common_steps}
use Rattle.ud_replace.specs.declared.stat.FileTime.{FileTime}
use Rattle.ud_replace.specs.declared.stat.FileVersion.{FileVersion}
use Rattle.ud_replace.specs.declared.stat.FileStat.{FileStat}
use Rattle.ud_replace.specs.Calls.{Call, looked}
use Rattle.ud_replace.specs.Filling.{LooksAgain, seen_same, seen_other}

abbrev same_time : FileTime → FileTime → Bool
same_time a b = int_eq a.seconds b.seconds && int_eq a.nanoseconds b.nanoseconds

abbrev same_version : FileVersion → FileVersion → Bool
same_version a b = eqb a.device b.device && (eqb a.inode b.inode && (eqb a.size b.size && (same_time a.modified b.modified && same_time a.changed b.changed)))

time : ℤ → ℤ → FileTime
time s n = record { seconds = s; nanoseconds = n }

times : (a b : FileTime) → same_time a b ≡ true → a ≡ b
unfolding time
times a b h = grind arith

same_times : (a : FileTime) → same_time a a ≡ true
same_times a = and_from _ _ ((Decides-int_eq a.seconds a.seconds).1 refl) ((Decides-int_eq a.nanoseconds a.nanoseconds).1 refl)

version : ℕ → ℕ → ℕ → FileTime → FileTime → FileVersion
version d i s m c = record { device = d; inode = i; size = s; modified = m; changed = c }

versions : (a b : FileVersion) → same_version a b ≡ true → a ≡ b
unfolding version
versions a b h = grind (arith, common_steps, and_parts, Decides-eqb, times, version)

-- the comparison of a look
pub looks : (name : List ℕ) (stat seen : FileStat) (old new : List Call) (b : Bool) → b ≡ same_version seen.version stat.version →
    new ≡ looked name (Some seen) ∷ old → LooksAgain name stat old new b
looks name stat seen old new true e is = seen_same (Some seen) (versions seen.version stat.version (sym e)) is
looks name stat seen old new false e is =
    seen_other (Some seen) (λ v. true≢false (sym (grind (arith, and_from, Decides-eqb, same_times)) ∙ ap (λ x. same_version x stat.version) (sym v) ∙ sym e)) is
