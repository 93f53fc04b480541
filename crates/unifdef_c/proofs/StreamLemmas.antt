-- StreamLemmas: from what a stream did to what a call from C did.
use Rattle.std.proofs.Common.{◌≡◌, ◌∙◌, refl, sym, subst, ℕ, ℤ, pos, negsuc, List, length, Bool, true, false, Option, None, Some, Result, arith}
use Rattle.std.specs.Prelude.{IfOk, is_some}
use Rattle.ud_model.specs.answer.CommandLine.{usage_fault, options_of, display_name}
use Rattle.ud_model.specs.declared.settings.Settings.{Settings}
use Rattle.ud_engine.specs.declared.fault.RunFault.{RunFault}
use Rattle.ud_args.specs.Plans.{PlanState, IsPlanOf}
use Rattle.unifdef_c.specs.Streams.{IsNewStream, BeginsStream, FeedsStream, TakesStream, EndsStream, pending, has_ended}
use Rattle.unifdef_c.specs.StreamCalls.{OpensStream, OpensHandle, FeedsHandle, TakesHandle, TellsEnd, EndsHandle, as_int, opened, refused}
use Rattle.unifdef_c.specs.StreamCalls as calls
use Rattle.unifdef_c.specs.CallFaults.{IsCallFault, code}
use Rattle.unifdef_c.specs.declared.fault.CallFault.{CallFault}
use Rattle.unifdef_c.specs.declared.stream.Stream.{Stream}
use Rattle.unifdef_c.specs.declared.stream.Fed.{Fed}
use Rattle.unifdef_c.specs.declared.stream.Fed.TheVariants as is

-- what is true of each value is true of the one in a result
pub ok_then : {X E : Type 0} (r : Result X E) (P Q : X → Type 0) → ((x : X) → P x → Q x) → IfOk r P → IfOk r Q
ok_then r P Q f p = grind arith

-- a text has ended before
pub was_ended : (s : Stream) (chunk : List ℕ) (o : Option (Result Bool RunFault)) → s.ended ≡ o → is_some o ≡ true → FeedsStream s s chunk is.Ended
was_ended s chunk None e k = cc
was_ended s chunk (Some r) e k = has_ended r e refl

pub not_ended : {X : Type 0} (o : Option X) → is_some o ≡ false → o ≡ None
not_ended o k = grind arith

-- a stream of a plan is one of the arguments of the plan
pub begins : (args : List (List ℕ)) (plan : PlanState) (name : List ℕ) (s : Stream) → IsPlanOf args plan →
    (usage_fault args ≡ None → name ≡ display_name args) → IsNewStream plan name s → BeginsStream args s
begins args plan name s p named n = record {
  right = p.right;
  fed = n.fed (options_of args) (sym p.said) p.represents;
  none_pending = rw (n.untaken, n.empty) refl;
  untaken = n.untaken;
  works = n.works;
  named = n.named ∙ named p.right;
  set = n.set ∙ p.said;
  goes_on = n.goes_on;
}

-- a handle has a stream, or none
pub opens : (block : List ℕ) (h : Option Stream) (s : Stream) → h ≡ Some s → OpensStream block s → OpensHandle block h (pos 0)
opens block h s e w = subst (λ (x : Option Stream). OpensHandle block x (pos 0)) (sym e) (opened s w)

pub opens_none : (block : List ℕ) (h : Option Stream) (f : CallFault) → h ≡ None → IsCallFault block f → OpensHandle block h (code f)
opens_none block h f e w = subst (λ (x : Option Stream). OpensHandle block x (code f)) (sym e) (refused f w)

pub feeds : (chunk : List ℕ) (h h' : Option Stream) (s t : Stream) (f : Fed) → h ≡ Some s → h' ≡ Some t → FeedsStream s t chunk f → FeedsHandle chunk h h' (as_int f)
feeds chunk h h' s t f e e' w =
    subst (λ (x : Option Stream). FeedsHandle chunk x h' (as_int f)) (sym e) (subst (λ (x : Option Stream). FeedsHandle chunk (Some s) x (as_int f)) (sym e') (calls.fed s t f w))

pub feeds_none : (chunk : List ℕ) (h h' : Option Stream) → h ≡ None → h' ≡ None → FeedsHandle chunk h h' (negsuc 3)
feeds_none chunk h h' e e' =
    subst (λ (x : Option Stream). FeedsHandle chunk x h' (negsuc 3)) (sym e) (subst (λ (x : Option Stream). FeedsHandle chunk None x (negsuc 3)) (sym e') calls.FeedsHandle.is_closed)

pub takes : (buffer buffer' : List ℕ) (left count : ℕ) (h h' : Option Stream) (s t : Stream) → h ≡ Some s → h' ≡ Some t → TakesStream s t buffer buffer' count →
    left ≡ length (pending t) → TakesHandle buffer buffer' left count h h'
takes buffer buffer' left count h h' s t e e' w l =
    subst (λ (x : Option Stream). TakesHandle buffer buffer' left count x h') (sym e)
    (subst (λ (x : Option Stream). TakesHandle buffer buffer' left count (Some s) x) (sym e') (calls.taken s t w l))

pub takes_none : (buffer : List ℕ) (h h' : Option Stream) → h ≡ None → h' ≡ None → TakesHandle buffer buffer 0 0 h h'
takes_none buffer h h' e e' =
    subst (λ (x : Option Stream). TakesHandle buffer buffer 0 0 x h') (sym e)
    (subst (λ (x : Option Stream). TakesHandle buffer buffer 0 0 None x) (sym e') (calls.TakesHandle.is_closed refl refl refl))

pub tells : (name name' : List ℕ) (settings settings' : Settings) (r : Result Bool RunFault) (message message' : List ℕ) (size' n : ℕ) → name ≡ name' → settings ≡ settings' →
    TellsEnd name settings r message message' size' n → TellsEnd name' settings' r message message' size' n
tells name name' settings settings' r message message' size' n e e' w = grind arith

pub ends : (message message' : List ℕ) (size size' : ℕ) (h h' : Option Stream) (s t : Stream) (r : Result Bool RunFault) (n : ℕ) (z : ℤ) → h ≡ Some s → h' ≡ Some t → z ≡ pos n →
    EndsStream s t r → TellsEnd t.name.items t.settings r message message' size' n → EndsHandle message message' size size' h h' z
ends message message' size size' h h' s t r n z e e' k w told =
    subst (λ (x : Option Stream). EndsHandle message message' size size' x h' z) (sym e)
    (subst (λ (x : Option Stream). EndsHandle message message' size size' (Some s) x z) (sym e')
    (subst (λ (x : ℤ). EndsHandle message message' size size' (Some s) (Some t) x) (sym k) (calls.ended s t r n w told)))

pub ends_none : (message : List ℕ) (size : ℕ) (h h' : Option Stream) → h ≡ None → h' ≡ None → EndsHandle message message size size h h' (negsuc 3)
ends_none message size h h' e e' =
    subst (λ (x : Option Stream). EndsHandle message message size size x h' (negsuc 3)) (sym e)
    (subst (λ (x : Option Stream). EndsHandle message message size size None x (negsuc 3)) (sym e') (calls.EndsHandle.is_closed refl refl))
