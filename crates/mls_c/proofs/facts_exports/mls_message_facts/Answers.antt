use Rattle.std.proofs.Common.{length, refl, ap}
use Rattle.mls_follow.proofs.ReadInProfile.{encodes, encodes_none}
use Rattle.mls_msgs.specs.declared.profile.Profile.TheVariants.{Full}
use Rattle.mls_c.specs.MessageFacts.{PutsFacts}
use Rattle.mls_c.proofs.facts_exports.mls_message_facts.Goals as goal

pub returns-in-Err-Wire-clause-reads : goal.returns-in-Err-Wire-clause-reads
returns-in-Err-Wire-clause-reads c = PutsFacts.malformed (encodes_none Full c.args.message.now c.in-Err-Wire.field-0-0 (rw c.in-Err-Wire.field-0-is at c.in-Err-Wire.ensures.decoded)) refl refl refl refl refl refl

pub returns-clause-reads : goal.returns-clause-reads
returns-clause-reads c =
    let facts = c.message_facts-found.ensures in
    let id = c.bytes_or_none-id.ensures in
    let key = rw facts.signature_key at c.bytes_or_none-key.ensures in
    let put = c.put_both.ensures in
    PutsFacts.reads c.in-Ok.decoded _ _ _ (encodes Full c.in-Ok.decoded c.args.message.now c.in-Ok.ensures.decoded) facts.group
    (rw (facts.wire_format, facts.sender, facts.signature_key, facts.proposals) at c.numbers_of.ensures)
    (record {
      first_written = rw (id, key) at put.first;
      second_written = rw (id, key) at put.second;
      first_length = ap length id;
      second_length = ap length key;
      number_is = rw (id, key) at put.number;
    })
