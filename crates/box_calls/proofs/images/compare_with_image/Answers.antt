use Rattle.box_calls.proofs.images.compare_with_image.Goals as goal

pub returns : goal.returns
returns g c =
    let compared = c.compare_images-first in
    let say = g.E.Sink.state in
    record {
      compares = record {
        found = compared.result.found;
        tells = compared.ensures.compares;
        uncompared = compared.ensures.failed;
        first_untouched = compared.ensures.first;
        second_untouched = compared.ensures.second;
        between = say c.say_parameters.new.sink;
        parameters = c.say_parameters.ensures;
        prints = c.end_images-status.ensures.prints;
      };
      flushed = c.end_images-status.ensures.flushed;
    }
