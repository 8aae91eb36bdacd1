-- What a group requires is one value, is so in one way, and is what is read.
use Rattle.std.proofs.Common.{◌≡◌, ℕ, List, [], Option, Some, None, Result, Ok, Err, refl, sym, ap, ◌∙◌}
use Rattle.std.specs.Coded.{Coded-set, coded_ℕ, coded_list, coded_option}
use Rattle.std.proofs.lemmas.Option.{same_Some}
use Rattle.mls_wire.specs.ExactReads.{DecodesAll-exact}
use Rattle.mls_wire.specs.Faults.{too_long_at}
use Rattle.mls_wire.specs.ExactTheorems.{one_value}
use Rattle.mls_wire.specs.Parsing.{whole_at}
use Rattle.mls_wire.specs.ParsingInternal.{Finds}
use Rattle.mls_wire.specs.declared.fault.CodecFault.{CodecFault}
use Rattle.mls_wire.specs.declared.fault.CodecFault.TheVariants as faults
use Rattle.mls_nodes.specs.declared.context.GroupContext.{GroupContext}
use Rattle.mls_nodes.specs.declared.required_capabilities.RequiredCapabilities.{RequiredCapabilities}
use Rattle.mls_nodes.specs.Layout.{required_capabilities}
use Rattle.mls_nodes.specs.Parsing.{required_capabilities_at}
use Rattle.mls_nodes.specs.NodesExact.{required_capabilities_exact}
use Rattle.mls_nodes.specs.Requirements.{FindsRequirements, Requires, RequiresBy, extension_of, requirements_in, required_by}
use Rattle.mls_nodes.specs.declared.extension.Extension.{Extension}

found_one : (body : Option (List ℕ)) (r s : RequiredCapabilities) → FindsRequirements body (Ok r) → FindsRequirements body (Ok s) → r ≡ s
found_one None r s x y = λ i. record {
  extensions = (x.0 ∙ sym y.0) i;
  proposals = (x.1 ∙ sym y.1) i;
  credentials = (x.2 ∙ sym y.2) i;
}
found_one (Some body) r s x y = one_value required_capabilities required_capabilities_at required_capabilities_exact r s body x y

-- a group requires one value at most
pub Requires-one : (context : GroupContext) (r s : RequiredCapabilities) → Requires context r → Requires context s → r ≡ s
Requires-one context r s = found_one (extension_of 3 context.extensions) r s

-- that it requires a value has one proof at most
pub Requires-prop : (context : GroupContext) (required : RequiredCapabilities) → IsProp (Requires context required)
Requires-prop context required = found (extension_of 3 context.extensions)
  where
    same : IsSet (List ℕ)
    same = Coded-set (coded_list coded_ℕ)

    found : (body : Option (List ℕ)) → IsProp (FindsRequirements body (Ok required))
    found None x y = λ i. (same required.extensions [] x.0 y.0 i, same required.proposals [] x.1 y.1 i, same required.credentials [] x.2 y.2 i)
    found (Some body) x y = Coded-set (coded_option (coded_list coded_ℕ)) (required_capabilities required) (Some body) x y

-- ---- what is read

nothing_required : (r : RequiredCapabilities) → FindsRequirements None (Ok r) → requirements_in None ≡ Some r
nothing_required r h = λ i. Some (record { extensions = sym h.0 i; proposals = sym h.1 i; credentials = sym h.2 i })

read_is : (body : List ℕ) (r : RequiredCapabilities) (o : Option RequiredCapabilities) → whole_at required_capabilities_at body ≡ o
    → required_capabilities r ≡ Some body → o ≡ Some r
read_is body r None e h = absurd (DecodesAll-exact required_capabilities required_capabilities_at required_capabilities_exact body (Err (faults.Wire (too_long_at 0))) e r h)
read_is body r (Some s) e h =
    ap Some (one_value required_capabilities required_capabilities_at required_capabilities_exact s r body
    (DecodesAll-exact required_capabilities required_capabilities_at required_capabilities_exact body (Ok s) e) h)

read_in : (body : Option (List ℕ)) (r : RequiredCapabilities) → FindsRequirements body (Ok r) → requirements_in body ≡ Some r
read_in None r h = nothing_required r h
read_in (Some body) r h = read_is body r (whole_at required_capabilities_at body) refl h

in_read : (body : Option (List ℕ)) (r : RequiredCapabilities) → requirements_in body ≡ Some r → FindsRequirements body (Ok r)
in_read None r h =
    let e = same_Some _ r h in
    (sym (ap (λ x. x.extensions) e), sym (ap (λ x. x.proposals) e), sym (ap (λ x. x.credentials) e))
in_read (Some body) r h = DecodesAll-exact required_capabilities required_capabilities_at required_capabilities_exact body (Ok r) h

pub required_by-determines : (extensions : List Extension) (r : RequiredCapabilities) → required_by extensions ≡ Some r → RequiresBy extensions r
unfolding required_by
required_by-determines extensions r h = in_read (extension_of 3 extensions) r h

pub required_by-determined : (extensions : List Extension) (r : RequiredCapabilities) → RequiresBy extensions r → required_by extensions ≡ Some r
unfolding required_by
required_by-determined extensions r h = read_in (extension_of 3 extensions) r h

-- what a call that looks for requirements answered is what is read
found_in : (body : Option (List ℕ)) (result : Result RequiredCapabilities CodecFault) → FindsRequirements body result → Finds (requirements_in body) result
found_in body (Ok r) h = read_in body r h
found_in body (Err faults.OutOfMemory) h = tt
found_in None (Err (faults.Wire f)) h = absurd h
found_in (Some body) (Err (faults.Wire f)) h = go (whole_at required_capabilities_at body) refl
  where
    go : (o : Option RequiredCapabilities) → whole_at required_capabilities_at body ≡ o → whole_at required_capabilities_at body ≡ None
    go None e = e
    go (Some r) e = absurd (h r (DecodesAll-exact required_capabilities required_capabilities_at required_capabilities_exact body (Ok r) e))

pub required_by-found : (extensions : List Extension) (result : Result RequiredCapabilities CodecFault)
    → FindsRequirements (extension_of 3 extensions) result → Finds (required_by extensions) result
unfolding required_by
required_by-found extensions result h = found_in (extension_of 3 extensions) result h
