mod FilesTold
